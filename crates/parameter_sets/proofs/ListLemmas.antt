-- Lists of elements, one element after another.
use Rattle.std.proofs.Common.{◌≡◌, ℕ, zero, suc, ◌<◌, Bool, true, false, if◌then◌else◌, get_or, List, [], ◌∷◌, length, filter, find, Some, refl, sym, subst, arith}
use Rattle.std.specs.List.{Contains, flat_map}
use Rattle.std.proofs.lemmas.List.Concat.{flat_map-cons}
use Rattle.std.proofs.lemmas.List.Elements.{Contains-append_left, Contains-append_right}
use Rattle.std.proofs.lemmas.Option.{none-some, same_Some}

contains_head : (x : ℕ) (xs : List ℕ) → Contains (x ∷ xs) x
contains_head x xs = (0, omega arith, refl)

-- what is found passes
pub found_kept : (p : ℕ → Bool) (xs : List ℕ) (x : ℕ) → find p xs ≡ Some x → Contains (filter p xs) x
found_kept p [] x e = absurd (none-some x e)
found_kept p (y ∷ xs) x e = at (p y) (found_kept p xs x) e
  where
    at : (b : Bool) → (find p xs ≡ Some x → Contains (filter p xs) x) → (if b then Some y else find p xs) ≡ Some x → Contains (if b then y ∷ filter p xs else filter p xs) x
    at true rest f = subst (λ (z : ℕ). Contains (y ∷ filter p xs) z) (same_Some y x f) (contains_head y (filter p xs))
    at false rest f = rest f

-- what stands in one of the elements stands in all of them
pub inside_one : (f : ℕ → List ℕ) (xs : List ℕ) (i k : ℕ) → i < length xs → Contains (f (get_or xs i 0)) k → Contains (flat_map f xs) k
inside_one f [] i k within c = absurd (omega (arith, within))
inside_one f (x ∷ xs) zero k within c =
    subst (λ (zs : List ℕ). Contains zs k) (sym (flat_map-cons f x xs)) (Contains-append_left (f x) (flat_map f xs) k c)
inside_one f (x ∷ xs) (suc i) k within c =
    subst (λ (zs : List ℕ). Contains zs k) (sym (flat_map-cons f x xs)) (Contains-append_right (f x) (flat_map f xs) k (inside_one f xs i k (omega (arith, within)) c))
