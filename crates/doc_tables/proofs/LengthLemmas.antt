-- A list without an element twice whose elements stand in another is no longer than that.
use Rattle.std.proofs.Common.{◌≡◌, ◌≤◌, ◌<◌, ℕ, zero, suc, List, [], ◌∷◌, length, Some, refl, sym, ap, ◌∙◌, subst, arith}
use Rattle.std.specs.List.{slice_get}
use Rattle.std.proofs.lemmas.Option.{same_Some, slice_get_within}

abbrev pub IsOnce : {X : Type 0} → List X → Type 0
IsOnce {X} xs = (j k : ℕ) (x : X) → slice_get xs j ≡ Some x → slice_get xs k ≡ Some x → j ≡ k

-- the list without its element at a place
without : {X : Type 0} → ℕ → List X → List X
without j [] = []
without zero (x ∷ xs) = xs
without (suc j) (x ∷ xs) = x ∷ without j xs

without_len : {X : Type 0} (j : ℕ) (xs : List X) → j < length xs → length xs ≡ suc (length (without j xs))
unfolding without
without_len j [] h = absurd (omega (arith, h))
without_len zero (x ∷ xs) h = refl
without_len (suc j) (x ∷ xs) h = ap suc (without_len j xs (omega (arith, h)))

without_kept : {X : Type 0} (j i : ℕ) (xs : List X) (x : X) → slice_get xs i ≡ Some x → (i ≡ j → ⊥) → (k : ℕ) × (slice_get (without j xs) k ≡ Some x)
unfolding without
without_kept j i [] x e n = cc
without_kept zero zero (y ∷ ys) x e n = absurd (n refl)
without_kept zero (suc i) (y ∷ ys) x e n = (i, e)
without_kept (suc j) zero (y ∷ ys) x e n = (zero, e)
without_kept (suc j) (suc i) (y ∷ ys) x e n =
    let h = without_kept j i ys x e (λ s. n (ap suc s)) in
    (suc h.0, h.1)

pub no_longer : {X : Type 0} (xs ys : List X) → IsOnce xs → ((x : X) (j : ℕ) → slice_get xs j ≡ Some x → (k : ℕ) × (slice_get ys k ≡ Some x)) → length xs ≤ length ys
no_longer [] ys once within = omega (arith)
no_longer {X} (x ∷ xs) ys once within =
    let len : length ys ≡ suc (length (without at.0 ys)) = without_len at.0 ys (slice_get_within ys at.0 x at.1) in
    let rest : length xs ≤ length (without at.0 ys) = no_longer xs (without at.0 ys) rest_once rest_within in
    omega (arith, len, rest)
  where
    at : (k : ℕ) × (slice_get ys k ≡ Some x)
    at = within x zero refl

    rest_once : IsOnce xs
    rest_once j k y e f = let same : suc j ≡ suc k = once (suc j) (suc k) y e f in omega (arith, same)

    rest_within : (y : X) (j : ℕ) → slice_get xs j ≡ Some y → (k : ℕ) × (slice_get (without at.0 ys) k ≡ Some y)
    rest_within y j e = let there = within y (suc j) e in without_kept at.0 there.0 ys y there.1 (apart y j e there)
      where
        apart : (y : X) (j : ℕ) → slice_get xs j ≡ Some y → (there : (k : ℕ) × (slice_get ys k ≡ Some y)) → there.0 ≡ at.0 → ⊥
        apart y j e there same =
            let one : x ≡ y = same_Some x y (sym at.1 ∙ ap (slice_get ys) (sym same) ∙ there.1) in
            let places : zero ≡ suc j = once zero (suc j) x refl (subst (λ z. slice_get xs j ≡ Some z) (sym one) e) in
            omega (arith, places)
