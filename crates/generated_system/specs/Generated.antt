-- The system that is made of what is drawn for each component (SSP 1.0: components, connections and parameter bindings).
use Rattle.std.specs.Prelude.{ℕ, zero, suc, ◌+◌, ◌-◌, pos, List, [], ◌∷◌, ◌++◌, map, Option, codes}
use Rattle.std.specs.Fmt.{decimal}
use Rattle.std.specs.List.{flat_map, range_with_len}
use Rattle.std.specs.Option.{option_map}
use Rattle.sim_base.specs.declared.numbers.PortId.{PortId}
use Rattle.value_types.specs.declared.values.PortType.TheVariants.{Int32}
use Rattle.system_model.specs.declared.bound.Bound.{Bound}
use Rattle.system_model.specs.declared.system.Component.{Component}
use Rattle.system_model.specs.declared.system.Feed.{Feed}
use Rattle.system_model.specs.declared.system.Role.{Role}
use Rattle.system_model.specs.declared.system.Role.TheVariants.{Input, Output}
use Rattle.system_model.specs.declared.system.Port.{Port}
use Rattle.system_model.specs.declared.plan.Plan.{Plan}
use Rattle.system_model.specs.declared.system.System.{System}
use Rattle.generated_system.specs.declared.drawn.DrawnMachine.{DrawnMachine}
use Rattle.generated_system.specs.declared.drawn.DrawnMachine.TheVariants.{Counter, Gain, Alarm}
use Rattle.generated_system.specs.declared.drawn.Drawn.{Drawn}
use Rattle.generated_system.specs.Draws.{drawn_for}
use Rattle.generated_system.specs.Shapes.{output_reference, shape_of, source_of_machine}

-- ---- components: b0, b1 and so on

abbrev pub component_of : ℕ → DrawnMachine → Component
component_of i machine = record {
  name = codes "b" ++ decimal i;
  source = source_of_machine machine;
  shape = shape_of machine;
}

-- ---- ports: the input u of a gain, and the output y of each

abbrev pub port_of : ℕ → List ℕ → ℕ → Role → Port
port_of i name reference role = record {
  component = record { 0 = i };
  name = name;
  kind = Int32;
  reference = reference;
  role = role;
  clocks = [];
}

abbrev pub inputs_of : ℕ → DrawnMachine → Option Feed → List Port
inputs_of i Counter feed = []
inputs_of i Gain feed = port_of i (codes "u") 2 (Input feed) ∷ []
inputs_of i Alarm feed = []

abbrev pub ports_of : ℕ → DrawnMachine → Option Feed → List Port
ports_of i machine feed =
    inputs_of i machine feed ++ port_of i (codes "y") (output_reference machine) Output ∷ []

-- how many ports a component has
abbrev pub port_count : DrawnMachine → ℕ
port_count Counter = 1
port_count Gain = 2
port_count Alarm = 1

-- the number of the first port of the i-th component
unfoldable pub first_port : (ℕ → Drawn) → ℕ → ℕ
first_port drawn zero = 0
first_port drawn (suc i) = first_port drawn i + port_count (drawn i).machine

-- the output of the i-th component is its last port
abbrev pub output_of : (ℕ → Drawn) → ℕ → PortId
output_of drawn i = record { 0 = first_port drawn (suc i) - 1 }

abbrev pub feed_of : (ℕ → Drawn) → ℕ → Option Feed
feed_of drawn i = option_map (λ j. record { from = output_of drawn j; changes = [] }) (drawn i).feeder

-- ---- the whole

-- the first n components, with what is drawn for each. Both orders take the ports by number
abbrev pub system_from : (ℕ → Drawn) → ℕ → System
system_from drawn n = record {
  components = map (λ i. component_of i (drawn i).machine) (range_with_len 0 n);
  ports = flat_map (λ i. ports_of i (drawn i).machine (feed_of drawn i)) (range_with_len 0 n);
  instant_order = map (λ p. record { 0 = p }) (range_with_len 0 (first_port drawn n));
  initial_order = map (λ p. record { 0 = p }) (range_with_len 0 (first_port drawn n));
}

-- the first parameter of each component has its value
abbrev pub bound_from : (ℕ → Drawn) → ℕ → Bound
bound_from drawn n = record {
  components = map
      (λ i. record { kind = Int32; reference = 1; value = pos (drawn i).parameter } ∷ [])
      (range_with_len 0 n);
  unreached = 0;
}

abbrev pub generated_system : ℕ → ℕ → System
generated_system seed n = system_from (drawn_for seed) n

abbrev pub generated_bound : ℕ → ℕ → Bound
generated_bound seed n = bound_from (drawn_for seed) n

-- ---- its run

-- ten steps of ten counts, of which a second has 1000
abbrev pub bench_plan : ℕ → Plan
bench_plan workers = record {
  resolution = 1000;
  start = 0;
  step = 10;
  stop = 100;
  limit = 100;
  workers = workers;
  link = 1;
}
