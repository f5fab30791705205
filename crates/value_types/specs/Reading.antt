-- Values in the attributes of a document: start values, and the values of parameters (FMI 3.0, 2.4.7; SSP 1.0, parameter values).
use Rattle.std.specs.Prelude.{◌≡◌, ◌⊎◌, ℕ, ℤ, pos, List, codes}
use Rattle.std.specs.Str.Parse.{IsNumeral, without_leading_sign, signed_digits_value}
use Rattle.value_types.specs.declared.values.PortType.{PortType}
use Rattle.value_types.specs.declared.values.PortType.TheVariants.{Boolean}
use Rattle.value_types.specs.Values.{Fits}

-- an optional sign and one decimal digit or more, which write the value
pub record Writes (text : List ℕ) (value : ℤ) : Type 0 where
  pub digits : IsNumeral 10 (without_leading_sign text)
  pub number : value ≡ signed_digits_value 10 text

-- a whole number in the range of the type; of a Boolean, `true` or `1`, `false` or `0`
abbrev pub Reads : PortType → List ℕ → ℤ → Type 0
Reads Boolean text value =
    ((value ≡ pos 1) × ((text ≡ codes "true") ⊎ (text ≡ codes "1"))) ⊎ ((value ≡ pos 0) × ((text ≡ codes "false") ⊎ (text ≡ codes "0")))
Reads kind text value = Writes text value × Fits kind value
