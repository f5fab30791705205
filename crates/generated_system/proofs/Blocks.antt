-- A list made of blocks, one after the other: where the elements of each block stand.
use Rattle.std.proofs.Common.{◌≡◌, ℕ, zero, suc, ◌+◌, ◌-◌, ◌<◌, ◌≤◌, List, [], ◌∷◌, ◌++◌, length, map, refl, sym, ◌∙◌, ap, arith, ◌⊎◌, inl, inr, length-append}
use Rattle.std.specs.Prelude.{Some, slice_get}
use Rattle.std.specs.List.{flat_map, range_with_len}
use Rattle.std.proofs.lemmas.Option.{none-some as none_some, same_Some}

-- ---- two lists

pub split_append : {X : Type 0} (xs ys : List X) (p : ℕ) (x : X) → slice_get (xs ++ ys) p ≡ Some x →
    (slice_get xs p ≡ Some x) ⊎ ((q : ℕ) × (p ≡ length xs + q) × (slice_get ys q ≡ Some x))
split_append [] ys p x e = inr (p, omega arith, e)
split_append (z ∷ xs) ys zero x e = inl e
split_append {X} (z ∷ xs) ys (suc p) x e =
    elim (split_append xs ys p x e) as (λ _. (slice_get (z ∷ xs) (suc p) ≡ Some x) ⊎ ((q : ℕ) × (suc p ≡ length (z ∷ xs) + q) × (slice_get ys q ≡ Some x))) [
      | inl h ↦ inl h
      | inr h ↦ let at : p ≡ length xs + h.0 = h.1 in inr (h.0, omega (arith, at), h.2)
    ]

pub get_left : {X : Type 0} (xs ys : List X) (p : ℕ) (x : X) → slice_get xs p ≡ Some x → slice_get (xs ++ ys) p ≡ Some x
get_left [] ys p x e = absurd (none_some _ e)
get_left (z ∷ xs) ys zero x e = e
get_left (z ∷ xs) ys (suc p) x e = get_left xs ys p x e

pub get_right : {X : Type 0} (xs ys : List X) (q : ℕ) → slice_get (xs ++ ys) (length xs + q) ≡ slice_get ys q
get_right [] ys q = ap (slice_get ys) (let e : 0 + q ≡ q = omega arith in e)
get_right (z ∷ xs) ys q =
    ap (slice_get ((z ∷ xs) ++ ys)) (let e : length (z ∷ xs) + q ≡ suc (length xs + q) = omega arith in e) ∙ get_right xs ys q

-- ---- elements made of numbers

pub mapped_at : {X : Type 0} (f : ℕ → X) (a n i : ℕ) (x : X) → slice_get (map f (range_with_len a n)) i ≡ Some x →
    (i < n) × (f (a + i) ≡ x)
mapped_at f a zero i x e = absurd (none_some _ e)
mapped_at f a (suc n) zero x e = (omega arith, ap f (let z : a + 0 ≡ a = omega arith in z) ∙ same_Some _ _ e)
mapped_at f a (suc n) (suc i) x e =
    let more = mapped_at f (a + 1) n i x e in
    let less : i < n = more.0 in
    (omega (arith, less), ap f (let z : a + suc i ≡ a + 1 + i = omega arith in z) ∙ more.1)

pub at_mapped : {X : Type 0} (f : ℕ → X) (a n i : ℕ) → i < n → slice_get (map f (range_with_len a n)) i ≡ Some (f (a + i))
at_mapped f a zero i less = absurd (omega (arith, less))
at_mapped f a (suc n) zero less = ap (λ k. Some (f k)) (let z : a ≡ a + 0 = omega arith in z)
at_mapped f a (suc n) (suc i) less =
    at_mapped f (a + 1) n i (omega (arith, less)) ∙ ap (λ k. Some (f k)) (let z : a + 1 + i ≡ a + suc i = omega arith in z)

-- ---- blocks, of which each begins where the one before it ends

abbrev pub BeginsAt : {X : Type 0} → (ℕ → List X) → (ℕ → ℕ) → Type 0
BeginsAt block first = (i : ℕ) → first (suc i) ≡ first i + length (block i)

-- an element of one of the n blocks from the a-th on
pub record InBlock {X : Type 0} (block : ℕ → List X) (first : ℕ → ℕ) (a n p : ℕ) (x : X) : Type 0 where
  pub number : ℕ
  pub low : a ≤ number
  pub high : number < a + n
  pub place : ℕ
  pub is : slice_get (block number) place ≡ Some x
  pub at : first a + p ≡ first number + place

pub found_in_block : {X : Type 0} (block : ℕ → List X) (first : ℕ → ℕ) → BeginsAt block first → (a n p : ℕ) (x : X) →
    slice_get (flat_map block (range_with_len a n)) p ≡ Some x → InBlock block first a n p x
found_in_block block first begins a zero p x e = absurd (none_some _ e)
found_in_block block first begins a (suc n) p x e =
    elim (split_append (block a) (flat_map block (range_with_len (a + 1) n)) p x e) as (λ _. InBlock block first a (suc n) p x) [
      | inl h ↦ record { number = a; low = omega arith; high = omega arith; place = p; is = h; at = refl }
      | inr h ↦
          let more : InBlock block first (a + 1) n h.0 x = found_in_block block first begins (a + 1) n h.0 x h.2 in
          let next : first (a + 1) ≡ first a + length (block a) = ap first (let z : a + 1 ≡ suc a = omega arith in z) ∙ begins a in
          let place : p ≡ length (block a) + h.0 = h.1 in
          let at : first (a + 1) + h.0 ≡ first more.number + more.place = more.at in
          let low : a + 1 ≤ more.number = more.low in
          let high : more.number < a + 1 + n = more.high in
          record { number = more.number; low = omega (arith, low); high = omega (arith, high); place = more.place; is = more.is; at = omega (arith, next, place, at) }
    ]

-- an element of the j-th of the n blocks from the a-th on stands there
pub at_block : {X : Type 0} (block : ℕ → List X) (first : ℕ → ℕ) → BeginsAt block first → (a n j k : ℕ) (x : X) → j < n →
    slice_get (block (a + j)) k ≡ Some x →
    (p : ℕ) × (first a + p ≡ first (a + j) + k) × (slice_get (flat_map block (range_with_len a n)) p ≡ Some x)
at_block block first begins a zero j k x less is = absurd (omega (arith, less))
at_block block first begins a (suc n) zero k x less is =
    let same : a + 0 ≡ a = omega arith in
    let here : slice_get (block a) k ≡ Some x = ap (λ i. slice_get (block i) k) (sym same) ∙ is in
    (k, ap (λ i. first i + k) (sym same), get_left (block a) (flat_map block (range_with_len (a + 1) n)) k x here)
at_block block first begins a (suc n) (suc j) k x less is =
    let same : a + 1 + j ≡ a + suc j = omega arith in
    let more = at_block block first begins (a + 1) n j k x (omega (arith, less)) (ap (λ i. slice_get (block i) k) same ∙ is) in
    let next : first (a + 1) ≡ first a + length (block a) = ap first (let z : a + 1 ≡ suc a = omega arith in z) ∙ begins a in
    let at : first (a + 1) + more.0 ≡ first (a + 1 + j) + k = more.1 in
    let there : first (a + 1 + j) ≡ first (a + suc j) = ap first same in
    (length (block a) + more.0, omega (arith, next, at, there), get_right (block a) (flat_map block (range_with_len (a + 1) n)) more.0 ∙ more.2)

pub length_of_blocks : {X : Type 0} (block : ℕ → List X) (first : ℕ → ℕ) → BeginsAt block first → (a n : ℕ) →
    first a + length (flat_map block (range_with_len a n)) ≡ first (a + n)
length_of_blocks block first begins a zero = let same : a ≡ a + 0 = omega arith in (let e : first a + 0 ≡ first a = omega arith in e) ∙ ap first same
length_of_blocks block first begins a (suc n) =
    let more : first (a + 1) + length (flat_map block (range_with_len (a + 1) n)) ≡ first (a + 1 + n) = length_of_blocks block first begins (a + 1) n in
    let next : first (a + 1) ≡ first a + length (block a) = ap first (let z : a + 1 ≡ suc a = omega arith in z) ∙ begins a in
    let long : length (block a ++ flat_map block (range_with_len (a + 1) n)) ≡ length (block a) + length (flat_map block (range_with_len (a + 1) n)) = length-append (block a) (flat_map block (range_with_len (a + 1) n)) in
    let there : first (a + 1 + n) ≡ first (a + suc n) = ap first (let z : a + 1 + n ≡ a + suc n = omega arith in z) in
    omega (arith, more, next, long, there)

-- a later block doesn't begin earlier
pub begins_later : {X : Type 0} (block : ℕ → List X) (first : ℕ → ℕ) → BeginsAt block first → (i k : ℕ) → first i ≤ first (i + k)
begins_later block first begins i zero = let same : first i ≡ first (i + 0) = ap first (let z : i ≡ i + 0 = omega arith in z) in omega (arith, same)
begins_later block first begins i (suc k) =
    let more : first i ≤ first (i + k) = begins_later block first begins i k in
    let next : first (suc (i + k)) ≡ first (i + k) + length (block (i + k)) = begins (i + k) in
    let same : first (i + suc k) ≡ first (suc (i + k)) = ap first (let z : i + suc k ≡ suc (i + k) = omega arith in z) in
    omega (arith, more, next, same)

pub ends_before : {X : Type 0} (block : ℕ → List X) (first : ℕ → ℕ) → BeginsAt block first → (j i : ℕ) → j < i → first (suc j) ≤ first i
ends_before block first begins j i less =
    let rest : suc j + (i - suc j) ≡ i = omega (arith, less) in
    let more : first (suc j) ≤ first (suc j + (i - suc j)) = begins_later block first begins (suc j) (i - suc j) in
    let same : first (suc j + (i - suc j)) ≡ first i = ap first rest in
    omega (arith, more, same)
