-- Triggered Clocks: a counter feeds a relay, whose Clock o and output y feed a sampler (FMI 3.0, 2.2.8: triggered Clocks; SSP 1.0: connections).
use Rattle.std.specs.Prelude.{ℤ, pos, true, List, [], ◌∷◌, Option, Some, None, codes}
use Rattle.value_types.specs.declared.values.PortType.TheVariants.{Int32, Clock}
use Rattle.value_types.specs.declared.shape.IntervalVariability.TheVariants as v
use Rattle.value_types.specs.declared.shape.Variable.{Variable}
use Rattle.value_types.specs.declared.shape.Knowns.TheVariants.{AllInputs, Listed}
use Rattle.value_types.specs.declared.shape.Shape.{Shape}
use Rattle.system_model.specs.declared.system.Role.TheVariants.{Input, Output, ClockInput, ClockOutput}
use Rattle.system_model.specs.declared.system.System.{System}
use Rattle.system_model.specs.Text.{Instant, instant_at}
use Rattle.run_model.specs.Run.{Run}
use Rattle.run_rows.specs.Parts.{parameter, input, input_clock, output, output_clock, timing_of, shape_of, component_of, port_of, feed_from, port_ids, unbound, plan_by}
use Rattle.run_rows.specs.Machines.{machine_of, counter, sampler, relay}

abbrev pub c_y : Variable
c_y = output (codes "y") 2 []

abbrev pub r_u : Variable
r_u = input (codes "u") 1 [] (Some (pos 0))

abbrev pub r_o : Variable
r_o = output_clock (codes "o") 2

abbrev pub r_y : Variable
r_y = output (codes "y") 3 (2 ∷ [])

abbrev pub s_c : Variable
s_c = input_clock (codes "c") 1

abbrev pub s_u : Variable
s_u = input (codes "u") 2 (1 ∷ []) (Some (pos 0))

abbrev pub s_y : Variable
s_y = output (codes "y") 3 (1 ∷ [])

abbrev pub counter_shape : Shape
counter_shape =
    shape_of true (parameter (codes "inc") 1 (pos 2) ∷ c_y ∷ []) []
    (record { output = 2; on = Listed [] } ∷ [])

abbrev pub relay_shape : Shape
relay_shape =
    shape_of true (r_u ∷ r_o ∷ r_y ∷ []) (timing_of 2 v.Triggered ∷ [])
    (record { output = 2; on = AllInputs } ∷ record { output = 3; on = AllInputs } ∷ [])

abbrev pub sampler_shape : Shape
sampler_shape =
    shape_of true (s_c ∷ s_u ∷ s_y ∷ []) (timing_of 1 v.Triggered ∷ [])
    (record { output = 3; on = Listed (2 ∷ []) } ∷ [])

abbrev pub system : System
system = record {
  components =
      component_of 0 (codes "c") counter_shape ∷ component_of 1 (codes "r") relay_shape ∷
      component_of 2 (codes "s") sampler_shape ∷ [];
  ports =
      port_of 0 c_y Int32 Output [] ∷ port_of 1 r_u Int32 (Input (feed_from 0)) [] ∷
      port_of 1 r_o Clock ClockOutput [] ∷ port_of 1 r_y Int32 Output (port_ids (2 ∷ []))
      ∷ port_of 2 s_c Clock (ClockInput (feed_from 2)) [] ∷
      port_of 2 s_u Int32 (Input (feed_from 3)) (port_ids (4 ∷ [])) ∷
      port_of 2 s_y Int32 Output (port_ids (4 ∷ [])) ∷ [];
  instant_order = port_ids (0 ∷ 1 ∷ 2 ∷ 3 ∷ 4 ∷ 5 ∷ 6 ∷ []);
  initial_order = port_ids (0 ∷ 1 ∷ []);
}

abbrev pub relayed_run : Run
relayed_run = record {
  system = system;
  bound = unbound;
  machines =
      machine_of counter_shape counter ∷ machine_of relay_shape (relay relay_shape) ∷
      machine_of sampler_shape (sampler sampler_shape) ∷ [];
  plan = plan_by 10 100;
}

abbrev pub v0 : List (Option ℤ)
v0 = Some (pos 0) ∷ Some (pos 0) ∷ Some (pos 0) ∷ None ∷ Some (pos 0) ∷ None ∷ None ∷ []

abbrev pub v10 : List (Option ℤ)
v10 =
    Some (pos 2) ∷ Some (pos 2) ∷ Some (pos 1) ∷ Some (pos 2) ∷ Some (pos 1) ∷
    Some (pos 2) ∷ Some (pos 2) ∷ []

abbrev pub v20 : List (Option ℤ)
v20 =
    Some (pos 4) ∷ Some (pos 4) ∷ Some (pos 1) ∷ Some (pos 4) ∷ Some (pos 1) ∷
    Some (pos 4) ∷ Some (pos 4) ∷ []

abbrev pub relayed_instants : List Instant
relayed_instants = instant_at 0 0 v0 ∷ instant_at 10 0 v10 ∷ instant_at 20 0 v20 ∷ []
