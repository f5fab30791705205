-- How numbers are written in parameters and transformations (SSP 1.0: Parameter, MapEntry, LinearTransformation).
use Rattle.std.specs.Prelude.{◌≡◌, ◌≢◌, ◌⊎◌, ◌==◌, ℕ, ℤ, Bool, true, false, List, [], ◌∷◌, ◌++◌, Option, Some, None, nat_eq, codes}
use Rattle.std.specs.List.{list_all, starts_with}
use Rattle.value_types.specs.declared.values.PortType.TheVariants.{Boolean, Int64, UInt64}
use Rattle.value_types.specs.Reading.{Reads}
use Rattle.parameter_values.specs.Values.{bit}
use Rattle.doc_grammar.specs.Nodes.{Node}
use Rattle.doc_tables.specs.Elements.{attribute}

-- ---- whole numbers and Booleans

-- a whole number of 64 bits, with a sign or without one: from -2^63 to 2^64 - 1
abbrev pub WritesWhole : List ℕ → ℤ → Type 0
WritesWhole text x = Reads Int64 text x ⊎ Reads UInt64 text x

-- the attribute is this whole number
abbrev pub IsWholeNumber : List Node → ℕ → List ℕ → ℤ → Type 0
IsWholeNumber t k name x = (text : List ℕ) × (attribute t k name ≡ Some text) × WritesWhole text x

-- the attribute is this Boolean: `true` or `1`, `false` or `0`
abbrev pub IsBoolean : List Node → ℕ → List ℕ → Bool → Type 0
IsBoolean t k name x =
    (text : List ℕ) × (attribute t k name ≡ Some text) × Reads Boolean text (bit x)

-- ---- factors and offsets

-- the digit 0
abbrev pub is_zero : ℕ → Bool
is_zero byte = byte == 48

abbrev pub AreZeros : List ℕ → Type 0
AreZeros text = (text ≢ []) × (list_all is_zero text ≡ true)

-- nothing, or a point and one zero or more after it
abbrev pub IsFraction : List ℕ → Type 0
IsFraction [] = Unit {0}
IsFraction (c ∷ zeros) = (c ≡ 46) × AreZeros zeros

-- an optional minus and digits, which write a number of 64 bits, and a fraction of zeros alone
pub record WritesFactor (text : List ℕ) (value : ℤ) : Type 0 where
  pub whole : List ℕ
  pub fraction : List ℕ
  pub text_is : text ≡ whole ++ fraction
  pub no_plus : starts_with nat_eq whole (codes "+") ≡ false
  pub reads : Reads Int64 whole value
  pub zeros : IsFraction fraction

-- the number that an attribute writes, or this one where it is absent
abbrev pub WritesOr : ℤ → Option (List ℕ) → ℤ → Type 0
WritesOr default None value = value ≡ default
WritesOr default (Some text) value = WritesFactor text value
