-- A value that fits its type is read back from its word; what fits is a fact and a test.
use Rattle.std.proofs.Common.{◌≡◌, suc, ◌-◌, ◌^◌, ℤ, pos, negsuc, true, refl, ap, ◌∙◌, arith}
use Rattle.std.specs.Int.{w64, cast_signed}
use Rattle.std.specs.Prelude.{FitsSigned, int_le, ◌≤ℤ◌}
use Rattle.std.proofs.lemmas.Int.{ints, to_z-of_z}
use Rattle.value_types.specs.declared.values.PortType.{PortType}
use Rattle.value_types.specs.declared.values.PortType.TheVariants.{Int8, UInt8, Int16, UInt16, Int32, UInt32, Int64, UInt64, Boolean, Enumeration, Clock}
use Rattle.value_types.specs.Values.{Fits, greatest_of, is_fitting, least_of, number_of, word_of}

-- the word of a number of 64 bits with a sign
signed_again : (value : ℤ) → FitsSigned w64 value → cast_signed w64 (word_of value) ≡ value
signed_again (pos n) h = to_z-of_z w64 (pos n) h
signed_again (negsuc n) h =
    let same : 2 ^ 64 - 1 - n ≡ 2 ^ 64 - suc n = omega arith in
    ap (cast_signed w64) same ∙ to_z-of_z w64 (negsuc n) h

pub number_of_word : (kind : PortType) (value : ℤ) → Fits kind value → number_of kind (word_of value) ≡ value
number_of_word Int8 value h = signed_again value (omega (arith, ints, h.0, h.1))
number_of_word UInt8 (pos n) h = refl
number_of_word UInt8 (negsuc n) h = absurd (omega (arith, ints, h.0))
number_of_word Int16 value h = signed_again value (omega (arith, ints, h.0, h.1))
number_of_word UInt16 (pos n) h = refl
number_of_word UInt16 (negsuc n) h = absurd (omega (arith, ints, h.0))
number_of_word Int32 value h = signed_again value (omega (arith, ints, h.0, h.1))
number_of_word UInt32 (pos n) h = refl
number_of_word UInt32 (negsuc n) h = absurd (omega (arith, ints, h.0))
number_of_word Int64 value h = signed_again value (omega (arith, ints, h.0, h.1))
number_of_word UInt64 (pos n) h = refl
number_of_word UInt64 (negsuc n) h = absurd (omega (arith, ints, h.0))
number_of_word Boolean (pos n) h = refl
number_of_word Boolean (negsuc n) h = absurd (omega (arith, ints, h.0))
number_of_word Enumeration value h = signed_again value (omega (arith, ints, h.0, h.1))
number_of_word Clock (pos n) h = refl
number_of_word Clock (negsuc n) h = absurd (omega (arith, ints, h.0))

-- a fact of a range and its test
int_le_true : (a b : ℤ) → a ≤ℤ b → int_le a b ≡ true
int_le_true a b h = grind (arith, ints)

pub fitting : (kind : PortType) (value : ℤ) → Fits kind value → is_fitting kind value ≡ true
fitting kind value h = rw (int_le_true (least_of kind) value h.0, int_le_true value (greatest_of kind) h.1) refl

pub fits_of : (kind : PortType) (value : ℤ) → is_fitting kind value ≡ true → Fits kind value
fits_of kind value is = grind (arith, ints)
