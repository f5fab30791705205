-- What is left where the nodes that wait for one are examined.
use Rattle.std.proofs.Common.{◌≡◌, ◌⊎◌, inl, inr, ℕ, ◌+◌, ◌<◌, ◌≤◌, Bool, List, [], length, get_or, set, Result, Ok, Err, sym, subst, arith}
use Rattle.std.specs.List.{Contains}
use Rattle.std.specs.Result.{OnOk}
use Rattle.std.proofs.lemmas.List.{get_or_read}
use Rattle.std.proofs.lemmas.List.Elements.{Contains-get_or}
use Rattle.dependency_order.specs.Sorting.{IsSorting, IsHeld, IsFurther}
use Rattle.dependency_order.proofs.SortLemmas.{marked_within, sorting_takes, held_takes}

pub node_within : (g : List (List ℕ)) (order : List ℕ) (placed : List Bool) (passed : List ℕ) (waiting : List (List ℕ)) (at node : ℕ) → IsSorting g order placed passed waiting → at < length order → node ≡ get_or order at node → node < length g
node_within g order placed passed waiting at node s within is =
    let l = marked_within placed node (s.listed node (subst (Contains order) (sym is) (Contains-get_or order at node within))) in
    let m = s.marks in
    omega (arith, l, m)

pub taken_sorting : (g : List (List ℕ)) (order : List ℕ) (placed : List Bool) (passed : List ℕ) (waiting left : List (List ℕ)) (node : ℕ) → IsSorting g order placed passed waiting → left ≡ set waiting node [] → IsSorting g order placed passed left
taken_sorting g order placed passed waiting left node s is = subst (IsSorting g order placed passed) (sym is) (sorting_takes g order placed passed waiting node s)

pub taken_within : (g : List (List ℕ)) (order : List ℕ) (placed : List Bool) (passed : List ℕ) (waiting : List (List ℕ)) (nodes : List ℕ) (node : ℕ) → IsSorting g order placed passed waiting → nodes ≡ get_or waiting node [] → (p : ℕ) → Contains nodes p → p < length g
taken_within g order placed passed waiting nodes node s is p h = s.waits node p (subst (λ z. Contains z p) is h)

pub released : {E : Type 0} (r : Result (Unit {0}) E) (g : List (List ℕ)) (order order' : List ℕ) (placed placed' : List Bool) (waiting left waiting' : List (List ℕ)) (nodes : List ℕ) (at node : ℕ) → at < length order → node ≡ get_or order at node
    → left ≡ set waiting node [] → nodes ≡ get_or waiting node [] → ((p : ℕ) → p < length g → IsHeld g order placed waiting at p)
    → OnOk r (IsFurther g order order' placed placed' left waiting') → OnOk r ((a p : ℕ) → a ≤ length order → Contains nodes p → IsHeld g order' placed' waiting' a p)
    → OnOk r ((p : ℕ) → p < length g → IsHeld g order' placed' waiting' (at + 1) p)
released (Err e) g order order' placed placed' waiting left waiting' nodes at node within is gone taken held further all = tt
released (Ok u) g order order' placed placed' waiting left waiting' nodes at node within is gone taken held further all =
    λ p inside. by p (held_takes g order placed waiting node at p within (sym (get_or_read order at node within is 0)) (held p inside))
  where
    by : (p : ℕ) → IsHeld g order placed (set waiting node []) (at + 1) p ⊎ Contains (get_or waiting node []) p → IsHeld g order' placed' waiting' (at + 1) p
    by p (inl h) = further.held (at + 1) p (omega arith) (subst (λ z. IsHeld g order placed z (at + 1) p) (sym gone) h)
    by p (inr c) = all (at + 1) p (omega arith) (subst (λ z. Contains z p) (sym taken) c)
