-- The range of the whole numbers in a set of parameter values: those of 64 bits, with a sign or without one (SSP 1.0: Integer parameters; FMI 3.0, 2.2.2: the integer types of a fixed width).
use Rattle.std.specs.Prelude.{◌^◌, ◌-◌, pos, negsuc, ◌≤ℤ◌, All}
use Rattle.parameter_values.specs.declared.set.Parameter.{Parameter}
use Rattle.parameter_values.specs.declared.set.ParameterSet.{ParameterSet}
use Rattle.parameter_values.specs.declared.set.ParameterValue.{ParameterValue}
use Rattle.parameter_values.specs.declared.set.ParameterValue.TheVariants as value

-- from the least number with a sign to the greatest without one
abbrev pub IsInRange : ParameterValue → Type 0
IsInRange (value.Integer x) = (negsuc (2 ^ 63 - 1) ≤ℤ x) × (x ≤ℤ pos (2 ^ 64 - 1))
IsInRange (value.Boolean x) = Unit {0}
IsInRange value.Other = Unit {0}

-- each value of the set is in range
abbrev pub AreInRange : ParameterSet → Type 0
AreInRange set = All (λ (p : Parameter). IsInRange p.value) set.parameters
