-- What stands in a list with one more.
use Rattle.std.proofs.Common.{◌≡◌, ◌⊎◌, ◌↔◌, ◌<◌, ℕ, zero, suc, List, [], ◌∷◌, ◌++◌, length, get_or, Some, refl, sym, ap, ◌∙◌, subst, inl, inr, arith, map}
use Rattle.std.specs.List.{slice_get, Contains}
use Rattle.std.proofs.lemmas.Option.{slice_get_within, slice_get-get_or, get_or_from_slice_get}
use Rattle.std.proofs.lemmas.List.{map-append}
use Rattle.std.proofs.lemmas.List.Elements.{Contains-append_left, Contains-get_or, Contains-push, Contains-push_cases}
use Rattle.name_prefixes.proofs.CallerLemmas.{pushed}

pub push_cases : {X : Type 0} (xs : List X) (y : X) (j : ℕ) (x : X) → slice_get (xs ++ y ∷ []) j ≡ Some x → (slice_get xs j ≡ Some x) ⊎ ((j ≡ length xs) × (y ≡ x))
push_cases xs y j x e = by (pushed xs y j x e)
  where
    by : ((j < length xs) × (slice_get xs j ≡ Some x)) ⊎ ((j ≡ length xs) × (y ≡ x)) → (slice_get xs j ≡ Some x) ⊎ ((j ≡ length xs) × (y ≡ x))
    by (inl h) = inl h.1
    by (inr h) = inr h

pub element_at : {X : Type 0} (xs : List X) (k : ℕ) → k < length xs → (x : X) × (slice_get xs k ≡ Some x)
element_at [] k h = absurd (omega (arith, h))
element_at (y ∷ ys) zero h = (y, refl)
element_at (y ∷ ys) (suc k) h = element_at ys k (omega (arith, h))

-- an element by its place, and back
pub contains_at : {X : Type 0} (xs : List X) (i : ℕ) (x : X) → slice_get xs i ≡ Some x → Contains xs x
contains_at {X} xs i x e = subst (Contains xs) (get_or_from_slice_get xs i x x e) (Contains-get_or xs i x (slice_get_within xs i x e))

pub place_of : {X : Type 0} (xs : List X) (x : X) → Contains xs x → (k : ℕ) × (slice_get xs k ≡ Some x)
place_of xs x c = (c.0, slice_get-get_or xs c.0 x c.1 ∙ ap Some c.2)

-- the elements after a change of each
pub in_push : {X Y : Type 0} (f : X → Y) (xs : List X) (x : X) (y : Y) → Contains (map f (xs ++ x ∷ [])) y ↔ (Contains (map f xs) y ⊎ (f x ≡ y))
in_push {X} {Y} f xs x y =
    let e : map f (xs ++ x ∷ []) ≡ map f xs ++ f x ∷ [] = map-append f xs (x ∷ []) in
    (λ c. Contains-push_cases (map f xs) (f x) y (subst (λ z. Contains z y) e c), λ h. subst (λ z. Contains z y) (sym e) (by h))
  where
    by : Contains (map f xs) y ⊎ (f x ≡ y) → Contains (map f xs ++ f x ∷ []) y
    by (inl c) = Contains-append_left (map f xs) (f x ∷ []) y c
    by (inr s) = subst (Contains (map f xs ++ f x ∷ [])) s (Contains-push (map f xs) (f x))

-- an element that was read from a list
pub read_at : {X : Type 0} (xs ys : List X) (i : ℕ) (x : X) → ys ≡ xs → i < length xs → x ≡ get_or ys i x → slice_get xs i ≡ Some x
read_at xs ys i x same within is = slice_get-get_or xs i x within ∙ ap Some (sym (is ∙ ap (λ z. get_or z i x) same))
