-- What comes to an input along a path of connections (SSP 1.0: connections with a linear transformation or a mapping).
use Rattle.std.specs.Prelude.{◌≡◌, ℤ, pos, negsuc, ◌+ℤ◌, ◌*ℤ◌, ◌≤ℤ◌, ◌-◌, ◌^◌, ◌&&◌, int_le, if◌then◌else◌, List, [], ◌∷◌, Option, Some, None, option_and_then}
use Rattle.std.specs.Ordering.{int_eq}
use Rattle.std.specs.Option.{option_map}
use Rattle.parameter_values.specs.declared.change.BooleanPair.{BooleanPair}
use Rattle.parameter_values.specs.declared.change.Change.{Change}
use Rattle.parameter_values.specs.declared.change.Change.TheVariants as change
use Rattle.parameter_values.specs.declared.change.IntegerPair.{IntegerPair}
use Rattle.parameter_values.specs.Values.{bit}
use Rattle.value_types.specs.Values.{is_fitting}
use Rattle.value_types.specs.declared.joint.Class.{Class}
use Rattle.value_types.specs.declared.joint.Class.TheVariants as class
use Rattle.value_types.specs.declared.values.PortType.{PortType}
use Rattle.system_model.specs.declared.system.Feed.{Feed}
use Rattle.system_model.specs.declared.system.Role.{Role}
use Rattle.system_model.specs.declared.system.Role.TheVariants.{Input, Output, ClockInput, ClockOutput, TimeClock}
use Rattle.system_model.specs.Values.{value}

-- the number, where 64 bits hold it, with a sign or without
abbrev pub within : ℤ → Option ℤ
within x =
    if int_le (negsuc (2 ^ 63 - 1)) x && int_le x (pos (2 ^ 64 - 1)) then Some x else None

-- 64 bits hold it, with a sign or without
abbrev pub IsWide : ℤ → Type 0
IsWide x = (negsuc (2 ^ 63 - 1) ≤ℤ x) × (x ≤ℤ pos (2 ^ 64 - 1))

-- the first, or else the other
abbrev pub or_else : Option ℤ → Option ℤ → Option ℤ
or_else (Some x) other = Some x
or_else None other = other

-- the target of a pair, where it has this source
abbrev pub target_by : IntegerPair → ℤ → Option ℤ
target_by p x = if int_eq p.source x then Some p.target else None

-- the target of the last pair with this source
abbrev pub target_of : List IntegerPair → ℤ → Option ℤ
target_of [] x = None
target_of (p ∷ ps) x = or_else (target_of ps x) (target_by p x)

-- the same of Booleans, as numbers
abbrev pub truth_by : BooleanPair → ℤ → Option ℤ
truth_by p x = if int_eq (bit p.source) x then Some (bit p.target) else None

abbrev pub truth_of : List BooleanPair → ℤ → Option ℤ
truth_of [] x = None
truth_of (p ∷ ps) x = or_else (truth_of ps x) (truth_by p x)

-- what a change makes of a value, where it makes one
abbrev pub changed : Change → ℤ → Option ℤ
changed (change.Linear factor offset) x = within (factor *ℤ x +ℤ offset)
changed (change.Integers pairs) x = option_and_then within (target_of pairs x)
changed (change.Booleans pairs) x = truth_of pairs x

-- what the changes make of it, one after another
abbrev pub through : List Change → ℤ → Option ℤ
through [] x = Some x
through (c ∷ cs) x = option_and_then (through cs) (changed c x)

-- the value, where the type holds it
abbrev pub fitting : PortType → ℤ → Option ℤ
fitting kind x = if is_fitting kind x then Some x else None

-- what comes to an input of a type
abbrev pub carried : List Change → PortType → ℤ → Option ℤ
carried changes kind x =
    option_and_then (λ y. option_and_then (fitting kind) (through changes y)) (within x)

-- the change is one of the values of this class
abbrev pub IsOn : Class → Change → Type 0
IsOn c (change.Linear factor offset) = c ≡ class.Integer
IsOn c (change.Integers pairs) = c ≡ class.Integer
IsOn c (change.Booleans pairs) = c ≡ class.Boolean

-- ---- from a source

-- the value of the source
abbrev pub source_value : Feed → List (Option ℤ) → Option ℤ
source_value feed values = value values feed.from.0

-- what comes to an input of a type from its source, along its path
abbrev pub fed : PortType → Feed → List (Option ℤ) → Option ℤ
fed kind feed values =
    option_and_then (carried feed.changes kind) (source_value feed values)

-- what comes to a port of a role and a type: none where nothing feeds it; a Clock has its source's value
abbrev pub comes_to : Role → PortType → List (Option ℤ) → Option (Option ℤ)
comes_to (Input feed) kind values = option_map (λ (f : Feed). fed kind f values) feed
comes_to Output kind values = None
comes_to (ClockInput feed) kind values = option_map (λ (f : Feed). source_value f values) feed
comes_to ClockOutput kind values = None
comes_to (TimeClock timing) kind values = None
