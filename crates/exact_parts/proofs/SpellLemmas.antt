-- The bytes of a number, the most significant first, are its only ones.
use Rattle.std.proofs.Common.{◌≡◌, ℕ, zero, suc, ◌<◌, ◌^◌, List, [], ◌∷◌, length, refl, sym, ap, ◌∙◌, arith}
use Rattle.std.specs.Int.{w32, w64, to_be_bytes, from_be_bytes}
use Rattle.std.proofs.lemmas.Nat.{be_bytes_4, be_bytes_8, from_be_bytes-to_be_bytes_4, from_be_bytes-to_be_bytes_8}
use Rattle.std.specs.Prelude.{slice_index}
use Rattle.exact_parts.specs.declared.field.Spans.{Spans}
use Rattle.exact_parts.specs.Field.{AreBytes, Field, InSpans, number}

-- ---- numbers in bytes

pub number_4 : (bs : List ℕ) → length bs ≡ 4 → number 0 bs ≡ from_be_bytes w32 bs
number_4 [] e = absurd (omega (arith, e))
number_4 (a ∷ []) e = absurd (omega (arith, e))
number_4 (a ∷ b ∷ []) e = absurd (omega (arith, e))
number_4 (a ∷ b ∷ c ∷ []) e = absurd (omega (arith, e))
number_4 (a ∷ b ∷ c ∷ d ∷ []) e = omega arith
number_4 (a ∷ b ∷ c ∷ d ∷ x ∷ rest) e = absurd (omega (arith, e))

pub number_8 : (bs : List ℕ) → length bs ≡ 8 → number 0 bs ≡ from_be_bytes w64 bs
number_8 [] e = absurd (omega (arith, e))
number_8 (a ∷ []) e = absurd (omega (arith, e))
number_8 (a ∷ b ∷ []) e = absurd (omega (arith, e))
number_8 (a ∷ b ∷ c ∷ []) e = absurd (omega (arith, e))
number_8 (a ∷ b ∷ c ∷ d ∷ []) e = absurd (omega (arith, e))
number_8 (a ∷ b ∷ c ∷ d ∷ x ∷ []) e = absurd (omega (arith, e))
number_8 (a ∷ b ∷ c ∷ d ∷ x ∷ y ∷ []) e = absurd (omega (arith, e))
number_8 (a ∷ b ∷ c ∷ d ∷ x ∷ y ∷ z ∷ []) e = absurd (omega (arith, e))
number_8 (a ∷ b ∷ c ∷ d ∷ x ∷ y ∷ z ∷ w ∷ []) e = omega arith
number_8 (a ∷ b ∷ c ∷ d ∷ x ∷ y ∷ z ∷ w ∷ v ∷ rest) e = absurd (omega (arith, e))

pub field_1 : (spans : Spans) (n : ℕ) → n < 256 → InSpans spans n → Field 1 spans n (n ∷ [])
field_1 spans n lt h = record { size_is = refl; are_bytes = (lt, tt); number = omega arith; span = h }

pub field_4 : (spans : Spans) (n : ℕ) → n < 2 ^ 32 → InSpans spans n → Field 4 spans n (to_be_bytes w32 n)
field_4 spans n lt h = record {
  size_is = refl;
  are_bytes = (omega arith, (omega arith, (omega arith, (omega arith, tt))));
  number = number_4 (to_be_bytes w32 n) refl ∙ from_be_bytes-to_be_bytes_4 n lt;
  span = h;
}

pub field_8 : (spans : Spans) (n : ℕ) → n < 2 ^ 64 → InSpans spans n → Field 8 spans n (to_be_bytes w64 n)
field_8 spans n lt h = record {
  size_is = refl;
  are_bytes = (omega arith, (omega arith, (omega arith, (omega arith, (omega arith, (omega arith, (omega arith, (omega arith, tt))))))));
  number = number_8 (to_be_bytes w64 n) refl ∙ from_be_bytes-to_be_bytes_8 n lt;
  span = h;
}

byte_small : (bs : List ℕ) → AreBytes bs → (i : ℕ) → slice_index bs i < 256
byte_small [] h i = omega arith
byte_small (b ∷ bs) h zero = h.0
byte_small (b ∷ bs) h (suc i) = byte_small bs h.1 i

-- the bytes of a number are its only ones
pub record Only (n : ℕ) (bytes spelled : List ℕ) (limit : ℕ) : Type 0 where
  pub below : n < limit
  pub is : bytes ≡ spelled

pub only_1 : (spans : Spans) (n : ℕ) (bs : List ℕ) → Field 1 spans n bs → Only n bs (n ∷ []) 256
only_1 spans n [] h = absurd (omega (arith, h.size_is))
only_1 spans n (a ∷ []) h =
    let same : a ≡ n = omega (arith, h.number) in
    record { below = omega (arith, h.are_bytes.0, same); is = ap (λ (x : ℕ). x ∷ []) same }
only_1 spans n (a ∷ b ∷ rest) h = absurd (omega (arith, h.size_is))

pub only_4 : (spans : Spans) (n : ℕ) (bs : List ℕ) → Field 4 spans n bs → Only n bs (to_be_bytes w32 n) (2 ^ 32)
only_4 spans n bs h =
    let is : n ≡ from_be_bytes w32 bs = sym h.number ∙ number_4 bs h.size_is in
    let small = byte_small bs h.are_bytes in
    record { below = omega (arith, is, small 0, small 1, small 2, small 3); is = sym (be_bytes_4 bs n h.size_is small is) }

pub only_8 : (spans : Spans) (n : ℕ) (bs : List ℕ) → Field 8 spans n bs → Only n bs (to_be_bytes w64 n) (2 ^ 64)
only_8 spans n bs h =
    let is : n ≡ from_be_bytes w64 bs = sym h.number ∙ number_8 bs h.size_is in
    let small = byte_small bs h.are_bytes in
    record { below = omega (arith, is, small 0, small 1, small 2, small 3, small 4, small 5, small 6, small 7); is = sym (be_bytes_8 bs n h.size_is small is) }
