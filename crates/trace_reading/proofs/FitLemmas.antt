-- A value that fits a type, as a fact and as a test; a word of 64 bits holds it.
use Rattle.std.proofs.Common.{arith, ◌≡◌, refl, ℕ, ◌+◌, ◌-◌, ◌^◌, ◌<◌, ℤ, pos, negsuc, Bool, true, false, List, Option, Some, None, slice_get}
use Rattle.std.specs.Option.{option_map_or}
use Rattle.std.proofs.Math.Dec.{T}
use Rattle.std.specs.Prelude.{int_le}
use Rattle.std.proofs.lemmas.Float.{T_from_true}
use Rattle.std.proofs.lemmas.Bool.{leb-true}
use Rattle.value_types.specs.declared.values.PortType.{PortType}
use Rattle.value_types.specs.declared.values.PortType.TheVariants.{Int8, UInt8, Int16, UInt16, Int32, UInt32, Int64, UInt64, Boolean, Enumeration, Clock}
use Rattle.value_types.specs.Values.{Fits, is_fitting, least_of, greatest_of}
use Rattle.trace_reading.specs.Lines.{IsShort}
use Rattle.trace_reading.proofs.ListLemmas.{both, parts}

true_from_T : (b : Bool) → T b → b ≡ true
true_from_T true t = refl
true_from_T false t = absurd t

pub fits : (kind : PortType) (value : ℤ) → is_fitting kind value ≡ true → Fits kind value
fits kind value e =
    let tests = parts (int_le (least_of kind) value) (int_le value (greatest_of kind)) e in
    (record { le = T_from_true (int_le (least_of kind) value) tests.0 }, record { le = T_from_true (int_le value (greatest_of kind)) tests.1 })

pub fitting : (kind : PortType) (value : ℤ) → Fits kind value → is_fitting kind value ≡ true
fitting kind value f =
    both (int_le (least_of kind) value) (int_le value (greatest_of kind)) (true_from_T (int_le (least_of kind) value) f.0.le) (true_from_T (int_le value (greatest_of kind)) f.1.le)

upper : (kind : PortType) (n : ℕ) → int_le (pos n) (greatest_of kind) ≡ true → n < 2 ^ 64
upper Int8 n e = omega (arith, leb-true n (2 ^ 7 - 1) e)
upper Int16 n e = omega (arith, leb-true n (2 ^ 15 - 1) e)
upper Int32 n e = omega (arith, leb-true n (2 ^ 31 - 1) e)
upper Int64 n e = omega (arith, leb-true n (2 ^ 63 - 1) e)
upper Enumeration n e = omega (arith, leb-true n (2 ^ 63 - 1) e)
upper UInt8 n e = omega (arith, leb-true n (2 ^ 8 - 1) e)
upper UInt16 n e = omega (arith, leb-true n (2 ^ 16 - 1) e)
upper UInt32 n e = omega (arith, leb-true n (2 ^ 32 - 1) e)
upper UInt64 n e = omega (arith, leb-true n (2 ^ 64 - 1) e)
upper Boolean n e = omega (arith, leb-true n (1) e)
upper Clock n e = omega (arith, leb-true n (1) e)

lower : (kind : PortType) (n : ℕ) → int_le (least_of kind) (negsuc n) ≡ true → n + 1 < 2 ^ 64
lower Int8 n e = omega (arith, leb-true n (2 ^ 7 - 1) e)
lower Int16 n e = omega (arith, leb-true n (2 ^ 15 - 1) e)
lower Int32 n e = omega (arith, leb-true n (2 ^ 31 - 1) e)
lower Int64 n e = omega (arith, leb-true n (2 ^ 63 - 1) e)
lower Enumeration n e = omega (arith, leb-true n (2 ^ 63 - 1) e)
lower UInt8 n e = absurd (cc e)
lower UInt16 n e = absurd (cc e)
lower UInt32 n e = absurd (cc e)
lower UInt64 n e = absurd (cc e)
lower Boolean n e = absurd (cc e)
lower Clock n e = absurd (cc e)

by_bounds : (kind : PortType) (value : ℤ) → (int_le (least_of kind) value ≡ true) × (int_le value (greatest_of kind) ≡ true) → IsShort value
by_bounds kind (pos n) tests = upper kind n tests.1
by_bounds kind (negsuc n) tests = lower kind n tests.0

pub fits_short : (kind : PortType) (value : ℤ) → is_fitting kind value ≡ true → IsShort value
fits_short kind value e = by_bounds kind value (parts (int_le (least_of kind) value) (int_le value (greatest_of kind)) e)

-- a port's number whose type the value fits
pub record Fitting (kinds : List PortType) (port : ℕ) (value : ℤ) : Type 0 where
  pub kind : PortType
  pub at : slice_get kinds port ≡ Some kind
  pub fits : is_fitting kind value ≡ true

pub fitting_at : (kinds : List PortType) (port : ℕ) (value : ℤ) (o : Option PortType) → slice_get kinds port ≡ o → option_map_or (λ (kind : PortType). is_fitting kind value) o false ≡ true → Fitting kinds port value
fitting_at kinds port value None at e = absurd (cc e)
fitting_at kinds port value (Some kind) at e = record { kind = kind; at = at; fits = e }
