-- Lists with others put in.
use Rattle.std.proofs.Common.{◌≡◌, ◌∙◌, ℕ, ◌+◌, ◌-◌, ◌<◌, ◌≤◌, List, ◌++◌, length, take, drop, refl, ap, arith, append_assoc, length-append, length-drop}
use Rattle.std.proofs.lemmas.List.{length-map, length-take, take-take}
use Rattle.ssd_tree.specs.declared.tree.ComponentPart.{ComponentPart}
use Rattle.ssd_tree.specs.declared.tree.SystemTree.{SystemTree}
use Rattle.nested_documents.specs.declared.seam.Frame.{Frame}
use Rattle.nested_documents.specs.Inlining.{inlined, put}

-- what came after was taken off, then what goes, and then the rest was put on
pub put_is : {A : Type 0} (at gone : ℕ) (inner outer prefix joined whole : List A) → prefix ≡ take at (take (at + gone) outer) → joined ≡ prefix ++ inner → whole ≡ joined ++ drop (at + gone) outer → whole ≡ put at gone inner outer
put_is {A} at gone inner outer prefix joined whole e f g =
    let h : take at (take (at + gone) outer) ≡ take at outer = take-take at (at + gone) outer (omega arith) in
    g ∙ (ap (λ (xs : List A). xs ++ drop (at + gone) outer) f ∙ (ap (λ (xs : List A). (xs ++ inner) ++ drop (at + gone) outer) (e ∙ h) ∙ append_assoc (take at outer) inner (drop (at + gone) outer)))

pub length_put : {A : Type 0} (at gone : ℕ) (inner outer : List A) → at + gone ≤ length outer → length (put at gone inner outer) ≡ (length outer - gone) + length inner
length_put at gone inner outer within =
    let a = length-append (take at outer) (inner ++ drop (at + gone) outer) in
    let b = length-append inner (drop (at + gone) outer) in
    let d = length-drop (at + gone) outer in
    let t = length-take at outer in
    omega (arith, a, b, d, t, within)

-- one Component goes, and the inner ones come
pub length_inlined : (outer : SystemTree) (place : ℕ) (c : ComponentPart) (f : Frame) (inner : SystemTree) (elements : ℕ) → place < length outer.components → length (inlined outer place c f inner elements).components ≡ (length outer.components - 1) + length inner.components
length_inlined outer place c f inner elements less =
    length_put place 1 _ _ (simp (length-map) (omega arith)) ∙ simp (length-map) refl
