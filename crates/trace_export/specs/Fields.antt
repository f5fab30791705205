-- The text of a port's value, and the row of an instant in a table of comma-separated values.
use Rattle.std.specs.Prelude.{◌≡◌, ℕ, ◌-◌, ◌^◌, ◌%◌, ℤ, pos, negsuc, List, [], ◌∷◌, ◌++◌, Option, Some, None, true, false, is_nan, from_bits, codes, decimal}
use Rattle.std.specs.Fmt.{signed_decimal}
use Rattle.std.specs.Float.{binary32, binary64}
use Rattle.std.specs.Float.Ieee.{Format, Float}
use Rattle.fast_float.specs.Parse.{parse_float}
use Rattle.trace_export.specs.declared.cells.Form.{Form}
use Rattle.trace_export.specs.declared.cells.Form.TheVariants.{Whole, Float64, Float32}

-- the low bits of a number in two's complement
abbrev pub low_bits : ℕ → ℤ → ℕ
low_bits width (pos n) = n % 2 ^ width
low_bits width (negsuc n) = 2 ^ width - 1 - n % 2 ^ width

-- `nan`, or a text that reads back as the real
pub record IsRealText (format : Format) (x : Float) (text : List ℕ) : Type 0 where
  pub none : is_nan x ≡ true → text ≡ codes "nan"
  pub reads : is_nan x ≡ false → parse_float format text ≡ Some x

abbrev pub IsValueText : Form → ℤ → List ℕ → Type 0
IsValueText Whole value text = text ≡ signed_decimal value
IsValueText Float64 value text = IsRealText binary64 (from_bits binary64 (low_bits 64 value)) text
IsValueText Float32 value text = IsRealText binary32 (from_bits binary32 (low_bits 32 value)) text

-- the value's text, or nothing where there is no value
abbrev pub IsField : Form → Option ℤ → List ℕ → Type 0
IsField form None text = text ≡ []
IsField form (Some value) text = IsValueText form value text

-- a field for each port, in order, each after a comma
abbrev pub AreFields : List Form → List (Option ℤ) → List ℕ → Type 0
AreFields [] [] text = text ≡ []
AreFields [] (value ∷ values) text = ⊥
AreFields (form ∷ forms) [] text = ⊥
AreFields (form ∷ forms) (value ∷ values) text =
    (field : List ℕ) × (rest : List ℕ) × IsField form value field × AreFields forms values rest ×
    (text ≡ 44 ∷ (field ++ rest))

-- after its time the instant's number at its point, and a field for each port
pub record IsRow (n : ℕ) (forms : List Form) (values : List (Option ℤ)) (row : List ℕ) : Type 0 where
  pub fields : List ℕ
  pub each : AreFields forms values fields
  pub text : row ≡ decimal n ++ (fields ++ (10 ∷ []))

-- after the old text stands such a field, with its comma; such fields; such a row
abbrev pub AddsField : Form → Option ℤ → List ℕ → List ℕ → Type 0
AddsField form value old new =
    (field : List ℕ) × IsField form value field × (new ≡ old ++ (44 ∷ field))

abbrev pub AddsFields : List Form → List (Option ℤ) → List ℕ → List ℕ → Type 0
AddsFields forms values old new =
    (fields : List ℕ) × AreFields forms values fields × (new ≡ old ++ fields)

abbrev pub AddsRow : ℕ → List Form → List (Option ℤ) → List ℕ → List ℕ → Type 0
AddsRow n forms values old new = (row : List ℕ) × IsRow n forms values row × (new ≡ old ++ row)

abbrev pub AddsText : Form → ℤ → List ℕ → List ℕ → Type 0
AddsText form value old new = (text : List ℕ) × IsValueText form value text × (new ≡ old ++ text)

abbrev pub AddsReal : Format → Float → List ℕ → List ℕ → Type 0
AddsReal format x old new = (text : List ℕ) × IsRealText format x text × (new ≡ old ++ text)
