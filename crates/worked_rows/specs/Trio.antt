-- Three FMUs side by side, the first two of one source (SSP 1.0: a system of components without connections).
use Rattle.std.specs.Prelude.{ℕ, ℤ, pos, Bool, true, false, List, [], ◌∷◌, Option, Some, None, codes}
use Rattle.sim_base.specs.declared.numbers.PortId.{PortId}
use Rattle.value_types.specs.declared.values.PortType.TheVariants as T
use Rattle.value_types.specs.declared.shape.Causality.{Causality}
use Rattle.value_types.specs.declared.shape.Causality.TheVariants as V
use Rattle.value_types.specs.declared.shape.Variable.{Variable}
use Rattle.value_types.specs.declared.shape.Knowns.TheVariants.{Listed}
use Rattle.value_types.specs.declared.shape.Dependency.{Dependency}
use Rattle.value_types.specs.declared.shape.Shape.{Shape}
use Rattle.system_model.specs.declared.bound.BoundValue.{BoundValue}
use Rattle.system_model.specs.Bounds.{AreParameterValues}
use Rattle.system_model.specs.declared.system.Component.{Component}
use Rattle.system_model.specs.declared.system.Role.TheVariants.{Output}
use Rattle.system_model.specs.declared.system.Port.{Port}
use Rattle.system_model.specs.declared.system.System.{System}

-- ---- the FMUs

abbrev pub number : List ℕ → ℕ → Causality → Option ℤ → Variable
number name reference causality start = record {
  name = name;
  aliases = [];
  reference = reference;
  kind = Some T.Int32;
  causality = causality;
  clocks = [];
  start = start;
  can_be_set_again = true;
}

abbrev pub on_nothing : Dependency
on_nothing = record { output = 2; on = Listed [] }

-- a counter that counts by a number, and takes steps of any size or of one alone
abbrev pub counting : ℤ → Bool → Shape
counting by varies = record {
  identifier = codes "counter";
  token = codes "{1}";
  resolution = 1000;
  has_event_mode = false;
  might_return_early = false;
  has_variable_steps = varies;
  can_save_state = false;
  can_serialize_state = false;
  variables =
      number (codes "inc") 1 V.Parameter (Some by) ∷ number (codes "y") 2 V.Output None ∷ [];
  clocks = [];
  dependencies = on_nothing ∷ [];
  initial_dependencies = on_nothing ∷ [];
}

-- what it counts by is bound to this number
abbrev pub inc_value : ℤ → BoundValue
inc_value by = record { kind = T.Int32; reference = 1; value = by }

-- they are values for the parameters of each counter
abbrev pub AreIncValues : List BoundValue → Type 0
AreIncValues values = (by : ℤ) (varies : Bool) → AreParameterValues (counting by varies) values

-- ---- the system

abbrev pub component : List ℕ → ℕ → Shape → Component
component name source shape = record { name = name; source = record { 0 = source }; shape = shape }

abbrev pub port : ℕ → Port
port of = record {
  component = record { 0 = of };
  name = codes "y";
  kind = T.Int32;
  reference = 2;
  role = Output;
  clocks = [];
}

abbrev pub in_turn : List PortId
in_turn = record { 0 = 0 } ∷ record { 0 = 1 } ∷ record { 0 = 2 } ∷ []

abbrev pub trio : System
trio = record {
  components =
      component (codes "first") 0 (counting (pos 2) true) ∷
      component (codes "second") 0 (counting (pos 2) true) ∷
      component (codes "third") 1 (counting (pos 5) false) ∷ [];
  ports = port 0 ∷ port 1 ∷ port 2 ∷ [];
  instant_order = in_turn;
  initial_order = in_turn;
}
