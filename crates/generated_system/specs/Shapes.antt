-- The descriptions of the built-in machines that are drawn (FMI 3.0, 2.4): counters, gains and alarms, whose variables are of 32 bits. All have event mode, can save their states and take steps of any size, and alarms might return early.
use Rattle.std.specs.Prelude.{ℕ, pos, Bool, true, false, List, [], ◌∷◌, Some, codes}
use Rattle.sim_base.specs.declared.numbers.SourceId.{SourceId}
use Rattle.value_types.specs.declared.values.PortType.TheVariants.{Int32}
use Rattle.value_types.specs.declared.shape.Causality.{Causality}
use Rattle.value_types.specs.declared.shape.Causality.TheVariants.{Parameter, Input, Output}
use Rattle.value_types.specs.declared.shape.Variable.{Variable}
use Rattle.value_types.specs.declared.shape.Knowns.TheVariants.{Listed}
use Rattle.value_types.specs.declared.shape.Dependency.{Dependency}
use Rattle.value_types.specs.declared.shape.Shape.{Shape}
use Rattle.generated_system.specs.declared.drawn.DrawnMachine.{DrawnMachine}
use Rattle.generated_system.specs.declared.drawn.DrawnMachine.TheVariants.{Counter, Gain, Alarm}

abbrev pub identifier_of : DrawnMachine → List ℕ
identifier_of Counter = codes "counter"
identifier_of Gain = codes "gain"
identifier_of Alarm = codes "alarm"

-- the components of one machine are instances of one FMU
abbrev pub source_of_machine : DrawnMachine → SourceId
source_of_machine Counter = record { 0 = 0 }
source_of_machine Gain = record { 0 = 1 }
source_of_machine Alarm = record { 0 = 2 }

abbrev pub variable : List ℕ → ℕ → Causality → Variable
variable name reference causality = record {
  name = name;
  aliases = [];
  reference = reference;
  kind = Some Int32;
  causality = causality;
  clocks = [];
  start = Some (pos 0);
  can_be_set_again = true;
}

abbrev pub variables_of : DrawnMachine → List Variable
variables_of Counter =
    variable (codes "inc") 1 Parameter ∷ variable (codes "y") 2 Output ∷
    variable (codes "long") 3 Parameter ∷ []
variables_of Gain =
    variable (codes "k") 1 Parameter ∷ variable (codes "u") 2 Input ∷
    variable (codes "y") 3 Output ∷ []
variables_of Alarm = variable (codes "at") 1 Parameter ∷ variable (codes "y") 2 Output ∷ []

-- the reference of its output
abbrev pub output_reference : DrawnMachine → ℕ
output_reference Counter = 2
output_reference Gain = 3
output_reference Alarm = 2

-- the references of what its output depends on
abbrev pub known_to_output : DrawnMachine → List ℕ
known_to_output Counter = []
known_to_output Gain = 2 ∷ []
known_to_output Alarm = []

abbrev pub dependencies_of : DrawnMachine → List Dependency
dependencies_of machine =
    record { output = output_reference machine; on = Listed (known_to_output machine) } ∷ []

abbrev pub is_alarm : DrawnMachine → Bool
is_alarm Counter = false
is_alarm Gain = false
is_alarm Alarm = true

abbrev pub shape_of : DrawnMachine → Shape
shape_of machine = record {
  identifier = identifier_of machine;
  token = [];
  resolution = 1000;
  has_event_mode = true;
  might_return_early = is_alarm machine;
  has_variable_steps = true;
  can_save_state = true;
  can_serialize_state = false;
  variables = variables_of machine;
  clocks = [];
  dependencies = dependencies_of machine;
  initial_dependencies = dependencies_of machine;
}
