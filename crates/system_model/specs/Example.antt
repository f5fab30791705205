-- A sound system with a Clock and a connection: an FMU whose output y feeds its own input u, which has a value at the ticks of its Clock c alone (FMI 3.0, 2.2.8: clocks).
use Rattle.std.specs.Prelude.{true, false, [], ◌∷◌, Some, None, codes}
use Rattle.value_types.specs.declared.values.PortType.TheVariants as T
use Rattle.value_types.specs.declared.shape.Causality.TheVariants as V
use Rattle.value_types.specs.declared.shape.IntervalVariability.TheVariants.{Constant}
use Rattle.value_types.specs.declared.shape.ClockTiming.{ClockTiming}
use Rattle.value_types.specs.declared.shape.Variable.{Variable}
use Rattle.value_types.specs.declared.shape.Knowns.TheVariants.{Listed}
use Rattle.value_types.specs.declared.shape.Dependency.{Dependency}
use Rattle.value_types.specs.declared.shape.Shape.{Shape}
use Rattle.system_model.specs.declared.system.Component.{Component}
use Rattle.system_model.specs.declared.system.Timing.TheVariants.{Periodic}
use Rattle.system_model.specs.declared.system.Role.TheVariants.{Input, Output, TimeClock}
use Rattle.system_model.specs.declared.system.Port.{Port}
use Rattle.system_model.specs.declared.system.System.{System}

abbrev pub variable_c : Variable
variable_c = record {
  name = codes "c";
  aliases = [];
  reference = 1;
  kind = Some T.Clock;
  causality = V.Input;
  clocks = [];
  start = None;
  can_be_set_again = true;
}

abbrev pub variable_u : Variable
variable_u = record {
  name = codes "u";
  aliases = [];
  reference = 2;
  kind = Some T.Int32;
  causality = V.Input;
  clocks = 1 ∷ [];
  start = None;
  can_be_set_again = true;
}

abbrev pub variable_y : Variable
variable_y = record {
  name = codes "y";
  aliases = [];
  reference = 3;
  kind = Some T.Int32;
  causality = V.Output;
  clocks = [];
  start = None;
  can_be_set_again = true;
}

-- every hundredth of a second
abbrev pub timing_c : ClockTiming
timing_c = record {
  reference = 1;
  variability = Constant;
  supports_fraction = false;
  interval = Some (record { counter = 1; resolution = 100 });
  shift = Some (record { counter = 0; resolution = 1 });
}

abbrev pub on_nothing : Dependency
on_nothing = record { output = 3; on = Listed [] }

abbrev pub sampling_shape : Shape
sampling_shape = record {
  identifier = codes "sampling";
  token = [];
  resolution = 1000;
  has_event_mode = true;
  might_return_early = false;
  has_variable_steps = true;
  can_save_state = true;
  can_serialize_state = false;
  variables = variable_c ∷ variable_u ∷ variable_y ∷ [];
  clocks = timing_c ∷ [];
  dependencies = on_nothing ∷ [];
  initial_dependencies = on_nothing ∷ [];
}

abbrev pub sampling_component : Component
sampling_component = record { name = codes "s"; source = record { 0 = 0 }; shape = sampling_shape }

abbrev pub port_c : Port
port_c = record {
  component = record { 0 = 0 };
  name = codes "c";
  kind = T.Clock;
  reference = 1;
  role = TimeClock (Periodic 10 0);
  clocks = [];
}

abbrev pub port_u : Port
port_u = record {
  component = record { 0 = 0 };
  name = codes "u";
  kind = T.Int32;
  reference = 2;
  role = Input (Some (record { from = record { 0 = 2 }; changes = [] }));
  clocks = record { 0 = 0 } ∷ [];
}

abbrev pub port_y : Port
port_y = record {
  component = record { 0 = 0 };
  name = codes "y";
  kind = T.Int32;
  reference = 3;
  role = Output;
  clocks = [];
}

abbrev pub sampling_system : System
sampling_system = record {
  components = sampling_component ∷ [];
  ports = port_c ∷ port_u ∷ port_y ∷ [];
  instant_order = record { 0 = 0 } ∷ record { 0 = 2 } ∷ record { 0 = 1 } ∷ [];
  initial_order = record { 0 = 2 } ∷ [];
}
