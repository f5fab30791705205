-- Parts of small systems: variables, shapes, components and ports.
use Rattle.std.specs.Prelude.{ℕ, ℤ, Bool, true, false, List, [], ◌∷◌, Option, Some, None, codes}
use Rattle.sim_base.specs.declared.numbers.PortId.{PortId}
use Rattle.value_types.specs.declared.values.PortType.{PortType}
use Rattle.value_types.specs.declared.values.PortType.TheVariants as T
use Rattle.value_types.specs.declared.shape.Causality.{Causality}
use Rattle.value_types.specs.declared.shape.Causality.TheVariants as V
use Rattle.value_types.specs.declared.shape.IntervalVariability.{IntervalVariability}
use Rattle.value_types.specs.declared.shape.IntervalVariability.TheVariants.{Constant}
use Rattle.value_types.specs.declared.shape.ClockTiming.{ClockTiming}
use Rattle.value_types.specs.declared.shape.Variable.{Variable}
use Rattle.value_types.specs.declared.shape.Dependency.{Dependency}
use Rattle.value_types.specs.declared.shape.Shape.{Shape}
use Rattle.clock_fraction.specs.declared.fraction.Fraction.{Fraction}
use Rattle.system_model.specs.declared.system.Component.{Component}
use Rattle.system_model.specs.declared.system.Feed.{Feed}
use Rattle.system_model.specs.declared.system.Role.{Role}
use Rattle.system_model.specs.declared.system.Port.{Port}
use Rattle.system_model.specs.declared.bound.Bound.{Bound}
use Rattle.system_model.specs.declared.plan.Plan.{Plan}

-- ---- shapes

abbrev pub variable_of : List ℕ → ℕ → PortType → Causality → List ℕ → Option ℤ → Variable
variable_of name reference kind causality clocks start =
    record {
      name = name;
      aliases = [];
      reference = reference;
      kind = Some kind;
      causality = causality;
      clocks = clocks;
      start = start;
      can_be_set_again = true;
    }

abbrev pub parameter : List ℕ → ℕ → ℤ → Variable
parameter name reference start = variable_of name reference T.Int32 V.Parameter [] (Some start)

abbrev pub input : List ℕ → ℕ → List ℕ → Option ℤ → Variable
input name reference clocks start = variable_of name reference T.Int32 V.Input clocks start

abbrev pub output : List ℕ → ℕ → List ℕ → Variable
output name reference clocks = variable_of name reference T.Int32 V.Output clocks None

abbrev pub input_clock : List ℕ → ℕ → Variable
input_clock name reference = variable_of name reference T.Clock V.Input [] None

abbrev pub output_clock : List ℕ → ℕ → Variable
output_clock name reference = variable_of name reference T.Clock V.Output [] None

-- a Clock whose timing isn't in the description
abbrev pub timing_of : ℕ → IntervalVariability → ClockTiming
timing_of reference variability = record {
  reference = reference;
  variability = variability;
  supports_fraction = true;
  interval = None;
  shift = None;
}

-- a constant Clock
abbrev pub constant_timing : ℕ → Fraction → Fraction → ClockTiming
constant_timing reference interval shift = record {
  reference = reference;
  variability = Constant;
  supports_fraction = false;
  interval = Some interval;
  shift = Some shift;
}

-- an FMU at 1000 counts a second that takes steps of any size and saves its state
abbrev pub shape_of : Bool → List Variable → List ClockTiming → List Dependency → Shape
shape_of has_event_mode variables clocks dependencies = record {
  identifier = codes "example";
  token = [];
  resolution = 1000;
  has_event_mode = has_event_mode;
  might_return_early = false;
  has_variable_steps = true;
  can_save_state = true;
  can_serialize_state = false;
  variables = variables;
  clocks = clocks;
  dependencies = dependencies;
  initial_dependencies = dependencies;
}

-- ---- systems

abbrev pub component_of : ℕ → List ℕ → Shape → Component
component_of source name shape =
    record { name = name; source = record { 0 = source }; shape = shape }

abbrev pub port_of : ℕ → Variable → PortType → Role → List PortId → Port
port_of i v kind role clocks = record {
  component = record { 0 = i };
  name = v.name;
  kind = kind;
  reference = v.reference;
  role = role;
  clocks = clocks;
}

abbrev pub feed_from : ℕ → Option Feed
feed_from p = Some (record { from = record { 0 = p }; changes = [] })

abbrev pub port_ids : List ℕ → List PortId
port_ids [] = []
port_ids (p ∷ ps) = record { 0 = p } ∷ port_ids ps

-- ---- runs

abbrev pub unbound : Bound
unbound = record { components = []; unreached = 0 }

-- from 0 to 20 by steps of this size
abbrev pub plan_by : ℕ → ℕ → Plan
plan_by step limit = record { resolution = 1000; start = 0; step = step; stop = 20; limit = limit; workers = 1; link = 1 }
