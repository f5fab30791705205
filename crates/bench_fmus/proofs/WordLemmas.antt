-- Words of values, and the values that are read of them.
use Rattle.std.proofs.Common.{◌≡◌, ℕ, ◌-◌, ◌%◌, ◌^◌, ◌<◌, ℤ, pos, negsuc, ◌+ℤ◌, ◌-ℤ◌, ◌≤ℤ◌, ◌<ℤ◌, Bool, true, Some, None, FitsSigned, if◌then◌else◌, refl, ap, ◌∙◌, arith}
use Rattle.std.specs.Int.{w64, cast_signed, cast_unsigned, int_rem_euclid}
use Rattle.std.proofs.lemmas.Int.{ints, to_z-of_z}
use Rattle.std.proofs.Math.Nat.{mod-lt}
use Rattle.value_types.specs.declared.values.PortType.{PortType}
use Rattle.value_types.specs.declared.values.PortType.TheVariants.{Int8, UInt8, Int16, UInt16, Int32, UInt32, Int64, UInt64, Boolean, Enumeration, Clock}
use Rattle.value_types.specs.Values.{Fits, greatest_of, is_fitting, least_of, number_of, word_of, word_value}
use Rattle.bench_fmus.specs.Wrapping.{wrapped, wrapped_between}
use Rattle.bench_fmus.proofs.WrapLemmas.{HasSize, wrapped_within}

rem_within : (a : ℤ) (n : ℕ) → 0 < n → (pos 0 ≤ℤ int_rem_euclid a (pos n)) × (int_rem_euclid a (pos n) <ℤ pos n)
rem_within (pos a) n h = let below : a % n < n = mod-lt a h in (omega (arith, ints), omega (arith, ints))
rem_within (negsuc a) n h = let below : a % n < n = mod-lt a h in (omega (arith, ints), omega (arith, ints))

within : (least greatest z : ℤ) (n : ℕ) → HasSize least greatest n → (least ≤ℤ wrapped_between least greatest z) × (wrapped_between least greatest z ≤ℤ greatest)
within least greatest z n size =
    let r = int_rem_euclid (z -ℤ least) (pos n) in
    let bounds : (pos 0 ≤ℤ r) × (r <ℤ pos n) = rem_within (z -ℤ least) n size.0 in
    let count : greatest -ℤ least +ℤ pos 1 ≡ pos n = size.1 in
    let is : wrapped_between least greatest z ≡ least +ℤ r = ap (λ (d : ℤ). least +ℤ int_rem_euclid (z -ℤ least) d) count in
    (omega (arith, ints), omega (arith, ints))

-- what is wrapped into a type is of it
pub wrapped_fits : (kind : PortType) (z : ℤ) → Fits kind (wrapped kind z)
wrapped_fits Int8 z = within (least_of Int8) (greatest_of Int8) z (2 ^ 8) (omega arith, refl)
wrapped_fits UInt8 z = within (least_of UInt8) (greatest_of UInt8) z (2 ^ 8) (omega arith, refl)
wrapped_fits Int16 z = within (least_of Int16) (greatest_of Int16) z (2 ^ 16) (omega arith, refl)
wrapped_fits UInt16 z = within (least_of UInt16) (greatest_of UInt16) z (2 ^ 16) (omega arith, refl)
wrapped_fits Int32 z = within (least_of Int32) (greatest_of Int32) z (2 ^ 32) (omega arith, refl)
wrapped_fits UInt32 z = within (least_of UInt32) (greatest_of UInt32) z (2 ^ 32) (omega arith, refl)
wrapped_fits Int64 z = within (least_of Int64) (greatest_of Int64) z (2 ^ 64) (omega arith, refl)
wrapped_fits UInt64 z = within (least_of UInt64) (greatest_of UInt64) z (2 ^ 64) (omega arith, refl)
wrapped_fits Boolean z = within (least_of Boolean) (greatest_of Boolean) z 2 (omega arith, refl)
wrapped_fits Enumeration z = within (least_of Enumeration) (greatest_of Enumeration) z (2 ^ 64) (omega arith, refl)
wrapped_fits Clock z = within (least_of Clock) (greatest_of Clock) z 2 (omega arith, refl)

-- a value of a type is wrapped into itself
pub wrapped_same : (kind : PortType) (z : ℤ) → Fits kind z → z ≡ wrapped kind z
wrapped_same kind z fits = wrapped_within (least_of kind) (greatest_of kind) z fits.0 fits.1

signed_back : (z : ℤ) → negsuc (2 ^ 63 - 1) ≤ℤ z → z ≤ℤ pos (2 ^ 63 - 1) → cast_signed w64 (word_of z) ≡ z
signed_back z low high =
    let fits : FitsSigned w64 z = omega (arith, ints) in
    ap (cast_signed w64) (word_is z low) ∙ to_z-of_z w64 z fits
  where
    word_is : (x : ℤ) → negsuc (2 ^ 63 - 1) ≤ℤ x → word_of x ≡ cast_unsigned w64 x
    word_is (pos n) low = refl
    word_is (negsuc n) low = omega (arith, ints)

unsigned_back : (z : ℤ) → pos 0 ≤ℤ z → pos (word_of z) ≡ z
unsigned_back (pos n) low = refl
unsigned_back (negsuc n) low = absurd (omega (arith, ints))

-- the word of a value of a type stands for it
pub number_back : (kind : PortType) (z : ℤ) → Fits kind z → number_of kind (word_of z) ≡ z
number_back Int8 z fits = signed_back z (omega (arith, ints)) (omega (arith, ints))
number_back UInt8 z fits = unsigned_back z fits.0
number_back Int16 z fits = signed_back z (omega (arith, ints)) (omega (arith, ints))
number_back UInt16 z fits = unsigned_back z fits.0
number_back Int32 z fits = signed_back z (omega (arith, ints)) (omega (arith, ints))
number_back UInt32 z fits = unsigned_back z fits.0
number_back Int64 z fits = signed_back z fits.0 fits.1
number_back UInt64 z fits = unsigned_back z fits.0
number_back Boolean z fits = unsigned_back z fits.0
number_back Enumeration z fits = signed_back z fits.0 fits.1
number_back Clock z fits = unsigned_back z fits.0

-- it is that of the value
pub word_back : (kind : PortType) (z : ℤ) → Fits kind z → word_value kind (word_of z) ≡ Some z
word_back kind z fits =
    let tested : is_fitting kind z ≡ true = grind (arith, ints) in
    let back : is_fitting kind (number_of kind (word_of z)) ≡ true = ap (is_fitting kind) (number_back kind z fits) ∙ tested in
    ap (λ (b : Bool). if b then Some (number_of kind (word_of z)) else None) back ∙ ap Some (number_back kind z fits)

-- a word has 64 bits
pub word_small : (kind : PortType) (z : ℤ) → Fits kind z → word_of z < 2 ^ 64
word_small kind (pos n) fits = at kind fits
  where
    at : (kind : PortType) → Fits kind (pos n) → n < 2 ^ 64
    at Int8 fits = omega (arith, ints)
    at UInt8 fits = omega (arith, ints)
    at Int16 fits = omega (arith, ints)
    at UInt16 fits = omega (arith, ints)
    at Int32 fits = omega (arith, ints)
    at UInt32 fits = omega (arith, ints)
    at Int64 fits = omega (arith, ints)
    at UInt64 fits = omega (arith, ints)
    at Boolean fits = omega (arith, ints)
    at Enumeration fits = omega (arith, ints)
    at Clock fits = omega (arith, ints)
word_small kind (negsuc n) fits = omega arith
