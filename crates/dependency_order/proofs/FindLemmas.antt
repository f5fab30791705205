-- A walk through nodes that aren't placed.
use Rattle.std.proofs.Common.{◌≡◌, ◌⊎◌, ℕ, ◌+◌, ◌<◌, ◌≤◌, Bool, List, [], ◌∷◌, ◌++◌, length, drop, get_or, set, Option, Some, None, Result, Ok, Err, sym, ap, ◌∙◌, subst, inl, inr, arith}
use Rattle.std.specs.List.{Contains}
use Rattle.std.specs.Result.{IfOk}
use Rattle.std.specs.declared.alloc.Global.{Global}
use Rattle.std.specs.declared.vec.Vec.{Vec}
use Rattle.dependency_order.proofs.OrderLemmas.{Walks, loop_after}
use Rattle.std.proofs.lemmas.Bool.{cases_eq}
use Rattle.std.proofs.lemmas.List.{length-append, get_or_append_left, get_or_push, get_or-set_same, get_or-set_other, get_or_read}
use Rattle.std.proofs.lemmas.List.Elements.{Contains-get_or}
use Rattle.dependency_order.specs.Graph.{Needs, IsClosed, IsLoop}
use Rattle.dependency_order.specs.Sorting.{IsStuck}
use Rattle.dependency_order.specs.Paths.{IsMarked}
use Rattle.dependency_order.proofs.SortLemmas.{at_each}

-- what stands in a list of needs is a node
pub need_below : (g : List (List ℕ)) (placed : List Bool) (row : List ℕ) (node k : ℕ) → length placed ≡ length g → IsClosed g → row ≡ get_or g node [] → k < length row → get_or row k 0 < length placed
need_below g placed row node k marks closed same within =
    let l = closed.below node (get_or row k 0) (subst (λ z. Contains z (get_or row k 0)) same (Contains-get_or row k 0 within)) in
    omega (arith, l, marks)

-- a node that isn't placed needs one that isn't
pub none_missing : (g : List (List ℕ)) (placed : List Bool) (row : List ℕ) (node end : ℕ) → IsStuck g placed → node < length g → (IsMarked placed node → ⊥) → row ≡ get_or g node [] → length row ≤ end
    → ((k : ℕ) → k < end → IsMarked placed (get_or row k 0)) → ⊥
none_missing g placed row node end stuck inside free same past all = by (stuck node inside)
  where
    by : IsMarked placed node ⊎ ((q : ℕ) × Needs g node q × (IsMarked placed q → ⊥)) → ⊥
    by (inl m) = free m
    by (inr h) = h.2 (at_each placed row (λ k l. all k (omega arith)) h.0 (subst (λ z. Contains z h.0) (sym same) h.1))

-- ---- where each node of the path stands

pub record StandsAt (path : List ℕ) (p k : ℕ) : Type 0 where
  pub within : k < length path
  pub is : get_or path k 0 ≡ p

-- the places tell where nodes stand in the path
abbrev pub IsTold : List (Option ℕ) → List ℕ → Type 0
IsTold places path = (p k : ℕ) → get_or places p None ≡ Some k → StandsAt path p k

pub told_push : (places : List (Option ℕ)) (path more : List ℕ) (node at : ℕ) → IsTold places path → node < length places → at ≡ length path → more ≡ path ++ node ∷ [] → IsTold (set places node (Some at)) more
told_push places path more node at told within end is p k h = by (cases_eq p node)
  where
    n : length (path ++ node ∷ []) ≡ length path + 1
    n = length-append path (node ∷ [])

    by : (p ≡ node) ⊎ (p ≡ node → ⊥) → StandsAt more p k
    by (inl e) =
        let found : Some at ≡ Some k = sym (get_or-set_same places node (Some at) None within) ∙ ap (λ z. get_or (set places node (Some at)) z None) (sym e) ∙ h in
        let same : at ≡ k = cc in
        subst (λ z. StandsAt z p k) (sym is) (record { within = omega (arith, n); is = get_or_push path node 0 k (sym end ∙ same) ∙ sym e })
    by (inr ne) =
        let old = told p k (sym (get_or-set_other places node p (Some at) None ne) ∙ h) in
        let l = old.within in
        subst (λ z. StandsAt z p k) (sym is) (record { within = omega (arith, n, l); is = get_or_append_left path (node ∷ []) 0 k l ∙ old.is })

pub told_at : (places : List (Option ℕ)) (path : List ℕ) (node place : ℕ) (found : Option ℕ) → IsTold places path → node < length places → found ≡ get_or places node found → found ≡ Some place → StandsAt path node place
told_at places path node place found told within is some = told node place (sym (get_or_read places node found within is None) ∙ some)

pub loops_after : {E : Type 0} (r : Result (Vec ℕ Global) E) (g : List (List ℕ)) (path lent : List ℕ) (node place : ℕ) → lent ≡ path → Walks (Needs g) path node → StandsAt path node place
    → IfOk r (λ nodes. nodes.items ≡ drop place lent) → IfOk r (λ nodes. IsLoop (Needs g) nodes.items)
loops_after (Err e) g path lent node place is walks at gives = tt
loops_after (Ok nodes) g path lent node place is walks at gives =
    subst (IsLoop (Needs g)) (sym (gives ∙ ap (drop place) is)) (loop_after (Needs g) path place node walks at.within at.is)
