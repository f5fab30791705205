-- Places in a list with others put in.
use Rattle.std.proofs.Common.{◌≡◌, ◌∙◌, ◌⊎◌, inl, inr, ℕ, zero, suc, ◌+◌, ◌-◌, ◌<◌, ◌≤◌, List, [], ◌∷◌, ◌++◌, length, take, drop, Some, refl, sym, ap, subst, arith, slice_get}
use Rattle.std.proofs.lemmas.Option.{none-some}
use Rattle.std.proofs.lemmas.List.{length-take-le}
use Rattle.nested_documents.specs.Inlining.{put}

append_prefix : {A : Type 0} (xs ys : List A) (i : ℕ) (x : A) → slice_get xs i ≡ Some x → slice_get (xs ++ ys) i ≡ Some x
append_prefix [] ys i x there = absurd (none-some x there)
append_prefix (z ∷ xs) ys zero x there = there
append_prefix (z ∷ xs) ys (suc i) x there = append_prefix xs ys i x there

append_back : {A : Type 0} (xs ys : List A) (i : ℕ) → slice_get (xs ++ ys) (length xs + i) ≡ slice_get ys i
append_back [] ys i = let e : 0 + i ≡ i = omega arith in ap (slice_get ys) e
append_back (z ∷ xs) ys i =
    let e : length (z ∷ xs) + i ≡ suc (length xs + i) = omega arith in
    ap (slice_get (z ∷ (xs ++ ys))) e ∙ append_back xs ys i

-- an element of two lists is one of the first, or one of the second
split : {A : Type 0} (xs ys : List A) (i : ℕ) (z : A) → slice_get (xs ++ ys) i ≡ Some z → (slice_get xs i ≡ Some z) ⊎ ((length xs ≤ i) × (slice_get ys (i - length xs) ≡ Some z))
split {A} [] ys i z there = let e : i ≡ i - 0 = omega arith in inr (omega arith, subst (λ (n : ℕ). slice_get ys n ≡ Some z) e there)
split (x ∷ xs) ys zero z there = inl there
split {A} (x ∷ xs) ys (suc i) z there = elim (split xs ys i z there) [
  | inl a ↦ inl a
  | inr b ↦
      let h = b.0 in
      let e : i - length xs ≡ suc i - length (x ∷ xs) = omega arith in
      inr (omega (arith, h), subst (λ (n : ℕ). slice_get ys n ≡ Some z) e b.1)
]

take_prefix : {A : Type 0} (at i : ℕ) (xs : List A) (x : A) → i < at → slice_get xs i ≡ Some x → slice_get (take at xs) i ≡ Some x
take_prefix at i [] x less there = absurd (none-some x there)
take_prefix zero i (z ∷ xs) x less there = absurd (omega arith)
take_prefix (suc at) zero (z ∷ xs) x less there = there
take_prefix (suc at) (suc i) (z ∷ xs) x less there = take_prefix at i xs x (omega arith) there

take_back : {A : Type 0} (at i : ℕ) (xs : List A) (x : A) → slice_get (take at xs) i ≡ Some x → (i < at) × (slice_get xs i ≡ Some x)
take_back zero i [] x there = absurd (none-some x there)
take_back zero i (z ∷ xs) x there = absurd (none-some x there)
take_back (suc at) i [] x there = absurd (none-some x there)
take_back (suc at) zero (z ∷ xs) x there = (omega arith, there)
take_back (suc at) (suc i) (z ∷ xs) x there = let h = take_back at i xs x there in let l = h.0 in (omega (arith, l), h.1)

drop_get : {A : Type 0} (n i : ℕ) (xs : List A) → slice_get (drop n xs) i ≡ slice_get xs (n + i)
drop_get zero i xs = let e : i ≡ 0 + i = omega arith in ap (slice_get xs) e
drop_get (suc n) i [] = refl
drop_get (suc n) i (x ∷ xs) = let e : suc (n + i) ≡ suc n + i = omega arith in drop_get n i xs ∙ ap (slice_get (x ∷ xs)) e

-- ---- where parts are

pub put_prefix : {A : Type 0} (at gone : ℕ) (ys xs : List A) (i : ℕ) (x : A) → i < at → slice_get xs i ≡ Some x → slice_get (put at gone ys xs) i ≡ Some x
put_prefix at gone ys xs i x less there = append_prefix (take at xs) (ys ++ drop (at + gone) xs) i x (take_prefix at i xs x less there)

pub put_inside : {A : Type 0} (at gone : ℕ) (ys xs : List A) (i : ℕ) (y : A) → at ≤ length xs → slice_get ys i ≡ Some y → slice_get (put at gone ys xs) (i + at) ≡ Some y
put_inside at gone ys xs i y le there =
    let n = length-take-le at xs le in
    let e : i + at ≡ length (take at xs) + i = omega (arith, n) in
    ap (slice_get (put at gone ys xs)) e ∙ (append_back (take at xs) (ys ++ drop (at + gone) xs) i ∙ append_prefix ys (drop (at + gone) xs) i y there)

pub put_back : {A : Type 0} (at gone : ℕ) (ys xs : List A) (i : ℕ) (x : A) → at ≤ length xs → at + gone ≤ i → slice_get xs i ≡ Some x → slice_get (put at gone ys xs) ((i - gone) + length ys) ≡ Some x
put_back at gone ys xs i x le past there =
    let n = length-take-le at xs le in
    let j = i - (at + gone) in
    let e : (i - gone) + length ys ≡ length (take at xs) + (length ys + j) = omega (arith, n) in
    let g : (at + gone) + j ≡ i = omega arith in
    ap (slice_get (put at gone ys xs)) e ∙ (append_back (take at xs) (ys ++ drop (at + gone) xs) (length ys + j) ∙ (append_back ys (drop (at + gone) xs) j ∙ (drop_get (at + gone) j xs ∙ (ap (slice_get xs) g ∙ there))))

-- a part of the whole is one before, an inner one, or one after
pub data IsAt {A : Type 0} (at gone : ℕ) (ys xs : List A) (j : ℕ) (z : A) : Type 0 where
  Prefix : j < at → slice_get xs j ≡ Some z → IsAt at gone ys xs j z
  Inside : (i : ℕ) → j ≡ i + at → slice_get ys i ≡ Some z → IsAt at gone ys xs j z
  Back : (i : ℕ) → j ≡ (i - gone) + length ys → at + gone ≤ i → slice_get xs i ≡ Some z → IsAt at gone ys xs j z

pub put_cases : {A : Type 0} (at gone : ℕ) (ys xs : List A) (j : ℕ) (z : A) → at ≤ length xs → slice_get (put at gone ys xs) j ≡ Some z → IsAt at gone ys xs j z
put_cases at gone ys xs j z le there = elim (split (take at xs) (ys ++ drop (at + gone) xs) j z there) [
  | inl a ↦ let h = take_back at j xs z a in Prefix h.0 h.1
  | inr b ↦ after b.0 (split ys (drop (at + gone) xs) (j - length (take at xs)) z b.1)
]
  where
    n : length (take at xs) ≡ at
    n = length-take-le at xs le

    after : length (take at xs) ≤ j → (slice_get ys (j - length (take at xs)) ≡ Some z) ⊎ ((length ys ≤ j - length (take at xs)) × (slice_get (drop (at + gone) xs) ((j - length (take at xs)) - length ys) ≡ Some z)) → IsAt at gone ys xs j z
    after past (inl a) = Inside (j - length (take at xs)) (omega (arith, n, past)) a
    after past (inr b) =
        let more = b.0 in
        let i = (j - length (take at xs)) - length ys in
        Back ((at + gone) + i) (omega (arith, n, past, more)) (omega arith) (sym (drop_get (at + gone) i xs) ∙ b.1)
