-- Scopes of Systems, and what is left of names after them.
use Rattle.std.proofs.Common.{◌≡◌, ◌+◌, ℕ, List, [], ◌∷◌, ◌++◌, Option, Some, None, refl, sym, ap, ◌∙◌, subst, append_assoc}
use Rattle.std.specs.List.{slice_get}
use Rattle.std.proofs.lemmas.List.{append_cancel_left}
use Rattle.std.proofs.lemmas.Option.{same_Some}
use Rattle.ssd_tree.specs.declared.tree.SystemPart.{SystemPart}
use Rattle.ssd_tree.specs.declared.tree.SystemTree.{SystemTree}
use Rattle.ssd_tree.specs.Named.{BeginsWithScope, Inner, IsScope, Outermost}
use Rattle.parameter_targets.specs.Scopes.{IsDepth, AtTop, Below, IsWithin, Same, Deeper}
use Rattle.parameter_targets.specs.Tables.{IsPathText}

none_some : {A : Type 0} (x : A) → ◌≡◌ {A = Option A} None (Some x) → ⊥
none_some x e = cc

-- a System has one part, and one that it stands in
above_once : (t : SystemTree) (s : ℕ) (p q : SystemPart) → slice_get t.systems s ≡ Some p → slice_get t.systems s ≡ Some q → p.parent ≡ q.parent
above_once t s p q a b = ap (λ (z : SystemPart). z.parent) (same_Some p q (sym a ∙ b))

pub scope_once : (t : SystemTree) (s : ℕ) (a b : List ℕ) → IsScope t s a → IsScope t s b → a ≡ b
scope_once t s a b (Outermost _ p _ i n e) (Outermost _ q _ j m f) = e ∙ sym f
scope_once t s a b (Outermost _ p _ i n e) (Inner _ outer q above _ j m rest f) = absurd (none_some outer (sym n ∙ above_once t s p q i j ∙ m))
scope_once t s a b (Inner _ outer p above _ i n rest e) (Outermost _ q _ j m f) = absurd (none_some outer (sym m ∙ above_once t s q p j i ∙ n))
scope_once t s a b (Inner _ outer p above _ i n rest e) (Inner _ outer' q above' _ j m rest' f) =
    let same : p ≡ q = same_Some p q (sym i ∙ j) in
    let one : outer ≡ outer' = same_Some outer outer' (sym n ∙ ap (λ (z : SystemPart). z.parent) same ∙ m) in
    let scopes : above ≡ above' = scope_once t outer above above' rest (subst (λ z. IsScope t z above') (sym one) rest') in
    e ∙ ap (λ z. z ++ (p.name ++ 46 ∷ [])) scopes ∙ ap (λ (z : SystemPart). above' ++ (z.name ++ 46 ∷ [])) same ∙ sym f

pub depth_once : (t : SystemTree) (s m n : ℕ) → IsDepth t s m → IsDepth t s n → m ≡ n
depth_once t s m n (AtTop _ _ p i o e) (AtTop _ _ q j u f) = e ∙ sym f
depth_once t s m n (AtTop _ _ p i o e) (Below _ outer _ k q j u rest f) = absurd (none_some outer (sym o ∙ above_once t s p q i j ∙ u))
depth_once t s m n (Below _ outer _ k p i o rest e) (AtTop _ _ q j u f) = absurd (none_some outer (sym u ∙ above_once t s q p j i ∙ o))
depth_once t s m n (Below _ outer _ k p i o rest e) (Below _ outer' _ k' q j u rest' f) =
    let one : outer ≡ outer' = same_Some outer outer' (sym o ∙ above_once t s p q i j ∙ u) in
    let depths : k ≡ k' = depth_once t outer k k' rest (subst (λ z. IsDepth t z k') (sym one) rest') in
    e ∙ ap (λ z. z + 1) depths ∙ sym f

-- ---- from one System to the one that it stands in

regroup : (above name own : List ℕ) → (above ++ (name ++ 46 ∷ [])) ++ own ≡ above ++ (name ++ 46 ∷ own)
regroup above name own = append_assoc above (name ++ 46 ∷ []) own ∙ ap (λ z. above ++ z) (append_assoc name (46 ∷ []) own)

pub begins_above : (t : SystemTree) (s above : ℕ) (part : SystemPart) (name : List ℕ) → slice_get t.systems s ≡ Some part → part.parent ≡ Some above → BeginsWithScope t s name → BeginsWithScope t above name
begins_above t s above part name is parent b = by b.scope b.scope_is b.is
  where
    by : (scope : List ℕ) → IsScope t s scope → name ≡ scope ++ b.own → BeginsWithScope t above name
    by scope (Outermost _ p _ i n e) same = absurd (none_some above (sym n ∙ above_once t s p part i is ∙ parent))
    by scope (Inner _ outer p inner _ i n rest e) same = record {
      scope = inner;
      scope_is = subst (λ z. IsScope t z inner) (same_Some outer above (sym n ∙ above_once t s p part i is ∙ parent)) rest;
      own = p.name ++ 46 ∷ b.own;
      is = same ∙ ap (λ z. z ++ b.own) e ∙ regroup inner p.name b.own;
    }

pub begins_within : (t : SystemTree) (outer s : ℕ) (name : List ℕ) → IsWithin t outer s → BeginsWithScope t s name → BeginsWithScope t outer name
begins_within t outer s name (Same _ e) b = subst (λ z. BeginsWithScope t z name) e b
begins_within t outer s name (Deeper _ above part is parent within) b = begins_within t outer above name within (begins_above t s above part name is parent b)

pub path_at_top : (t : SystemTree) (s : ℕ) (part : SystemPart) (name : List ℕ) → slice_get t.systems s ≡ Some part → part.parent ≡ None → IsPathText t s name name
path_at_top t s part name is top = record { scope = []; scope_is = Outermost s part [] is top refl; is = refl }

-- after the name of the System stands what it leaves of the path from the one around it
pub left_after : (t : SystemTree) (s above : ℕ) (part : SystemPart) (name text : List ℕ) → slice_get t.systems s ≡ Some part → part.parent ≡ Some above → BeginsWithScope t s name → IsPathText t above name text
    → (rest : List ℕ) × (text ≡ part.name ++ 46 ∷ rest)
left_after t s above part name text is parent b path = by b.scope b.scope_is b.is
  where
    by : (scope : List ℕ) → IsScope t s scope → name ≡ scope ++ b.own → (rest : List ℕ) × (text ≡ part.name ++ 46 ∷ rest)
    by scope (Outermost _ p _ i n e) same = absurd (none_some above (sym n ∙ above_once t s p part i is ∙ parent))
    by scope (Inner _ outer p inner _ i n rest e) same =
        let one : outer ≡ above = same_Some outer above (sym n ∙ above_once t s p part i is ∙ parent) in
        let scopes : path.scope ≡ inner = scope_once t above path.scope inner path.scope_is (subst (λ z. IsScope t z inner) one rest) in
        let whole : inner ++ text ≡ inner ++ (p.name ++ 46 ∷ b.own) = ap (λ z. z ++ text) (sym scopes) ∙ path.is ∙ same ∙ ap (λ z. z ++ b.own) e ∙ regroup inner p.name b.own in
        (b.own, append_cancel_left inner text (p.name ++ 46 ∷ b.own) whole ∙ ap (λ (z : SystemPart). z.name ++ 46 ∷ b.own) (same_Some p part (sym i ∙ is)))

pub path_below : (t : SystemTree) (s above : ℕ) (part : SystemPart) (name text rest : List ℕ) → slice_get t.systems s ≡ Some part → part.parent ≡ Some above → IsPathText t above name text → text ≡ part.name ++ 46 ∷ rest → IsPathText t s name rest
path_below t s above part name text rest is parent path e = record {
  scope = path.scope ++ (part.name ++ 46 ∷ []);
  scope_is = Inner s above part path.scope (path.scope ++ (part.name ++ 46 ∷ [])) is parent path.scope_is refl;
  is = regroup path.scope part.name rest ∙ ap (λ z. path.scope ++ z) (sym e) ∙ path.is;
}

pub path_once : (t : SystemTree) (s : ℕ) (name text other : List ℕ) → IsPathText t s name text → IsPathText t s name other → text ≡ other
path_once t s name text other a b =
    let scopes : a.scope ≡ b.scope = scope_once t s a.scope b.scope a.scope_is b.scope_is in
    append_cancel_left b.scope text other (ap (λ z. z ++ text) (sym scopes) ∙ a.is ∙ sym b.is)
