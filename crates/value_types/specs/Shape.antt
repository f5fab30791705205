-- What a description says of an FMU (FMI 3.0, 2.4), as its calls need it.
use Rattle.std.specs.Prelude.{◌≡◌, ℕ, ℤ, ◌==◌, Bool, true, false, ◌&&◌, ◌||◌, not, List, length, Option, Some, IsSomeAnd, is_some, find, if◌then◌else◌}
use Rattle.std.specs.List.{list_any, position, slice_get}
use Rattle.std.specs.Option.{option_map_or}
use Rattle.value_types.specs.declared.values.PortType.{PortType}
use Rattle.value_types.specs.declared.values.PortType.TheVariants.{Clock}
use Rattle.value_types.specs.declared.shape.Causality.{Causality}
use Rattle.value_types.specs.declared.shape.Causality.TheVariants.{Parameter, Input, Output}
use Rattle.value_types.specs.declared.shape.ClockTiming.{ClockTiming}
use Rattle.value_types.specs.declared.shape.Knowns.{Knowns}
use Rattle.value_types.specs.declared.shape.Knowns.TheVariants.{AllInputs, Listed}
use Rattle.value_types.specs.declared.shape.Dependency.{Dependency}
use Rattle.value_types.specs.declared.shape.Variable.{Variable}
use Rattle.value_types.specs.declared.shape.Shape.{Shape}

-- ---- what a variable is (2.4.7)

abbrev pub is_parameter : Causality → Bool
is_parameter Parameter = true
is_parameter _ = false

abbrev pub is_input : Causality → Bool
is_input Input = true
is_input _ = false

abbrev pub is_output : Causality → Bool
is_output Output = true
is_output _ = false

-- an input that isn't ignored
abbrev pub is_input_port : Variable → Bool
is_input_port v = is_input v.causality && is_some v.kind

-- an output that isn't ignored
abbrev pub is_output_port : Variable → Bool
is_output_port v = is_output v.causality && is_some v.kind

abbrev pub is_port : Variable → Bool
is_port v = is_input_port v || is_output_port v

abbrev pub is_clock_type : Option PortType → Bool
is_clock_type (Some Clock) = true
is_clock_type _ = false

-- a Clock that isn't ignored
abbrev pub is_clock : Variable → Bool
is_clock v = is_clock_type v.kind

-- it has a value at every instant, and not at the ticks of Clocks alone
abbrev pub is_unclocked : Variable → Bool
is_unclocked v = length v.clocks == 0

-- ---- what stands under a value reference: of several with one reference the first

abbrev pub variable_at : List Variable → ℕ → Option Variable
variable_at variables reference = find (λ (v : Variable). v.reference == reference) variables

-- the variable's place in the shape
abbrev pub place_of : List Variable → ℕ → Option ℕ
place_of variables reference = position (λ (v : Variable). v.reference == reference) variables

abbrev pub timing_at : List ClockTiming → ℕ → Option ClockTiming
timing_at clocks reference = find (λ (c : ClockTiming). c.reference == reference) clocks

-- what the output with a reference depends on
abbrev pub dependency_at : List Dependency → ℕ → Option Dependency
dependency_at dependencies reference = find (λ (d : Dependency). d.output == reference) dependencies

-- the reference is that of a variable of this kind
abbrev pub is_at : (Variable → Bool) → List Variable → ℕ → Bool
is_at kind variables reference = option_map_or kind (variable_at variables reference) false

-- the reference is that of an output of this type, which isn't ignored
abbrev pub IsOutput : Shape → PortType → ℕ → Type 0
IsOutput shape kind reference =
    IsSomeAnd (variable_at shape.variables reference) (λ (v : Variable). (v.kind ≡ Some kind) × (v.causality ≡ Output))

-- ---- what an output depends on (2.4.9)

-- the variable is among the knowns of an output; all inputs are those that aren't ignored
abbrev pub is_known : Knowns → Variable → Bool
is_known AllInputs v = is_input_port v
is_known (Listed on) v = list_any (λ r. r == v.reference) on

-- the output declares to depend on this variable, in Initialization Mode by a list of its own
abbrev pub is_declared : Shape → Bool → ℕ → Variable → Bool
is_declared shape initializing output v =
    option_map_or (λ (d : Dependency). is_known d.on v) (dependency_at (if initializing then shape.initial_dependencies else shape.dependencies) output) false

-- an input that the output doesn't declare
abbrev pub is_undeclared : Shape → Bool → ℕ → Variable → Bool
is_undeclared shape initializing output v = is_input v.causality && not (is_declared shape initializing output v)

-- the values are equal but at inputs that the output doesn't declare
pub record AgreeFor (shape : Shape) (initializing : Bool) (output : ℕ) (xs ys : List ℤ) : Type 0 where
  pub first : length xs ≡ length shape.variables
  pub second : length ys ≡ length shape.variables
  pub each : (k : ℕ) (v : Variable) → slice_get shape.variables k ≡ Some v → is_undeclared shape initializing output v ≡ false →
      slice_get xs k ≡ slice_get ys k
