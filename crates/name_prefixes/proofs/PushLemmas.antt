-- Elements of a list that grew by one.
use Rattle.std.proofs.Common.{◌≡◌, ◌⊎◌, inl, inr, ℕ, zero, suc, ◌<◌, List, [], ◌∷◌, ◌++◌, length, Some, refl, ap, arith, slice_get}
use Rattle.std.proofs.lemmas.Option.{same_Some}

-- an element of the longer list is one of the shorter, or the last
pub pushed : {X : Type 0} (xs : List X) (y : X) (i : ℕ) (z : X) → slice_get (xs ++ y ∷ []) i ≡ Some z → ((i < length xs) × (slice_get xs i ≡ Some z)) ⊎ ((i ≡ length xs) × (y ≡ z))
pushed [] y zero z there = inr (refl, same_Some y z there)
pushed [] y (suc i) z there = cc
pushed (x ∷ xs) y zero z there = inl (omega arith, there)
pushed (x ∷ xs) y (suc i) z there = elim (pushed xs y i z there) [
  | inl a ↦ inl (omega (arith, a.0), a.1)
  | inr b ↦ inr (ap suc b.0, b.1)
]

pub pushed_last : {X : Type 0} (xs : List X) (y : X) → slice_get (xs ++ y ∷ []) (length xs) ≡ Some y
pushed_last [] y = refl
pushed_last (x ∷ xs) y = pushed_last xs y

pub pushed_before : {X : Type 0} (xs : List X) (y : X) (i : ℕ) (z : X) → slice_get xs i ≡ Some z → slice_get (xs ++ y ∷ []) i ≡ Some z
pushed_before [] y i z there = cc
pushed_before (x ∷ xs) y zero z there = there
pushed_before (x ∷ xs) y (suc i) z there = pushed_before xs y i z there
