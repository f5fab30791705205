-- The first Component that waits, and a document in its place.
use Rattle.std.proofs.Common.{◌≡◌, ◌∙◌, ℕ, suc, ◌+◌, ◌-◌, ◌<◌, List, [], ◌∷◌, ◌++◌, drop, get_or, length, map, Some, slice_get, sym, ap, subst, arith}
use Rattle.std.proofs.lemmas.Option.{none-some, same_Some}
use Rattle.ssd_tree.specs.declared.tree.ComponentPart.{ComponentPart}
use Rattle.ssd_tree.specs.declared.tree.SystemTree.{SystemTree}
use Rattle.ssd_tree.specs.declared.tree.NestedComponent.{NestedComponent}
use Rattle.nested_documents.specs.declared.components.Waiting.{Waiting}
use Rattle.nested_documents.specs.declared.held.Nest.{Nest}
use Rattle.nested_documents.specs.declared.seam.Frame.{Frame}
use Rattle.nested_documents.specs.declared.seam.Seam.{Seam}
use Rattle.ssd_tree.specs.Lists.{AreBetween, places_of}
use Rattle.nested_documents.specs.Between.{waiting_places}
use Rattle.nested_documents.specs.Inlining.{inlined, seam_of}
use Rattle.nested_documents.specs.Nest.{CanAdd, moved_waiting, waiting_from}
use Rattle.nested_documents.specs.States.{gathered}
use Rattle.nested_documents.proofs.BetweenLemmas.{placed_more}
use Rattle.nested_documents.proofs.PutLemmas.{length_inlined}

-- it, and those after it
pub first_of : (ws : List Waiting) (w : Waiting) → Some w ≡ slice_get ws 0 → ws ≡ w ∷ drop 1 ws
first_of [] w e = absurd (none-some w (sym e))
first_of (v ∷ vs) w e = ap (λ (x : Waiting). x ∷ vs) (sym (same_Some w v e))

-- they are what is taken out and what is left
pub taken_first : (ws : List Waiting) (w : Waiting) (rest : List Waiting) → 0 < length ws → w ≡ get_or ws 0 w → rest ≡ drop 1 ws → ws ≡ w ∷ rest
taken_first [] w rest less e f = absurd (omega (arith, less))
taken_first (v ∷ vs) w rest less e f = ap (λ (x : Waiting). x ∷ vs) (sym e) ∙ ap (λ (xs : List Waiting). w ∷ xs) (sym f)

-- its place is one of the whole
pub first_within : (high : ℕ) (all : List Waiting) (w : Waiting) (rest : List Waiting) → all ≡ w ∷ rest → AreBetween 0 high (waiting_places all) → w.component < high
first_within high all w rest e b = (subst (λ (ws : List Waiting). AreBetween 0 high (waiting_places ws)) e b).1.0

-- and the others' places are after it
pub rest_after : (high : ℕ) (all : List Waiting) (w : Waiting) (rest : List Waiting) → all ≡ w ∷ rest → AreBetween 0 high (waiting_places all) → AreBetween (suc w.component) high (waiting_places rest)
rest_after high all w rest e b = (subst (λ (ws : List Waiting). AreBetween 0 high (waiting_places ws)) e b).1.1

-- with a document in its place, those that wait stand in the order of the whole again
pub placed_added : (outer inner whole : SystemTree) (place elements document level : ℕ) (c : ComponentPart) (f : Frame) (nested : List NestedComponent) (rest all : List Waiting) → place < length outer.components → AreBetween 0 (length inner.components) (places_of nested)
    → AreBetween (suc place) (length outer.components) (waiting_places rest) → whole ≡ inlined outer place c f inner elements
    → all ≡ map (waiting_from place document level) nested ++ map (moved_waiting (seam_of outer place c inner elements)) rest → AreBetween 0 (length whole.components) (waiting_places all)
placed_added outer inner whole place elements document level c f nested rest all less inside after e is =
    let count : length whole.components ≡ (length outer.components - 1) + length inner.components = ap (λ (t : SystemTree). length t.components) e ∙ length_inlined outer place c f inner elements less in
    subst (λ (n : ℕ). AreBetween 0 n (waiting_places all)) (sym count) (placed_more (seam_of outer place c inner elements) document level (length outer.components) nested rest all less inside after is)

-- the inner document's Components that wait, and then the others
pub waits_added : (s t : Seam) (before document level : ℕ) (nested : List NestedComponent) (rest prefix back all : List Waiting) → s ≡ t → prefix ≡ map (waiting_from before document (level + 1)) nested → back ≡ map (moved_waiting s) rest → all ≡ prefix ++ back
    → all ≡ map (waiting_from before document (suc level)) nested ++ map (moved_waiting t) rest
waits_added s t before document level nested rest prefix back all same e f is =
    let one : level + 1 ≡ suc level = omega arith in
    let P : Seam → ℕ → Type 0 = λ (s : Seam) (n : ℕ). all ≡ map (waiting_from before document n) nested ++ map (moved_waiting s) rest in
    let here : P s (level + 1) = is ∙ (ap (λ (ws : List Waiting). ws ++ back) e ∙ ap (λ (ws : List Waiting). map (waiting_from before document (level + 1)) nested ++ ws) f) in
    subst (P t) one (subst (λ (s : Seam). P s (level + 1)) same here)

-- what is taken out where a document may be added
pub taken : (n : Nest) (next : Waiting) (rest : List Waiting) → CanAdd (gathered n) → next ≡ get_or n.waiting.items 0 next → rest ≡ drop 1 n.waiting.items → n.waiting.items ≡ next ∷ rest
taken n next rest can e f =
    let some : 0 < length n.waiting.items = subst (λ (ws : List Waiting). 0 < length ws) (sym can.2) (omega arith) in
    taken_first n.waiting.items next rest some e f

pub within_parts : (n : Nest) (next : Waiting) (rest : List Waiting) → n.waiting.items ≡ next ∷ rest → next.component < length n.parts.components.items
within_parts n next rest e =
    subst (λ (k : ℕ). next.component < k) n.parts.components.ok.0 (first_within n.parts.components.len n.waiting.items next rest e n.placed)
