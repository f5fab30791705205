-- The ticks of a triggered Clock are counted: a counter feeds a relay, whose Clock o feeds that of an FMU which counts its Updates with its Clock active (FMI 3.0, 2.2.8: triggered Clocks).
use Rattle.std.specs.Prelude.{ℤ, pos, true, List, [], ◌∷◌, Option, Some, None, codes}
use Rattle.value_types.specs.declared.values.PortType.TheVariants.{Int32, Clock}
use Rattle.value_types.specs.declared.shape.IntervalVariability.TheVariants as v
use Rattle.value_types.specs.declared.shape.Variable.{Variable}
use Rattle.value_types.specs.declared.shape.Knowns.TheVariants.{AllInputs, Listed}
use Rattle.value_types.specs.declared.shape.Shape.{Shape}
use Rattle.system_model.specs.declared.system.Role.TheVariants.{Input, Output, ClockInput, ClockOutput}
use Rattle.system_model.specs.declared.system.System.{System}
use Rattle.system_model.specs.Text.{Instant, instant_at}
use Rattle.run_model.specs.Run.{Run}
use Rattle.run_rows.specs.Parts.{parameter, input, input_clock, output, output_clock, timing_of, shape_of, component_of, port_of, feed_from, port_ids, unbound, plan_by}
use Rattle.run_rows.specs.Machines.{machine_of, counter, ticker, relay}

abbrev pub c_y : Variable
c_y = output (codes "y") 2 []

abbrev pub r_u : Variable
r_u = input (codes "u") 1 [] (Some (pos 0))

abbrev pub r_o : Variable
r_o = output_clock (codes "o") 2

abbrev pub r_y : Variable
r_y = output (codes "y") 3 (2 ∷ [])

abbrev pub t_c : Variable
t_c = input_clock (codes "c") 1

abbrev pub t_u : Variable
t_u = input (codes "u") 2 [] None

abbrev pub t_y : Variable
t_y = output (codes "y") 3 []

abbrev pub counter_shape : Shape
counter_shape =
    shape_of true (parameter (codes "inc") 1 (pos 2) ∷ c_y ∷ []) []
    (record { output = 2; on = Listed [] } ∷ [])

abbrev pub relay_shape : Shape
relay_shape =
    shape_of true (r_u ∷ r_o ∷ r_y ∷ []) (timing_of 2 v.Triggered ∷ [])
    (record { output = 2; on = AllInputs } ∷ record { output = 3; on = AllInputs } ∷ [])

abbrev pub ticker_shape : Shape
ticker_shape =
    shape_of true (t_c ∷ t_u ∷ t_y ∷ []) (timing_of 1 v.Triggered ∷ [])
    (record { output = 3; on = AllInputs } ∷ [])

abbrev pub system : System
system = record {
  components =
      component_of 0 (codes "c") counter_shape ∷ component_of 1 (codes "r") relay_shape ∷
      component_of 2 (codes "t") ticker_shape ∷ [];
  ports =
      port_of 0 c_y Int32 Output [] ∷ port_of 1 r_u Int32 (Input (feed_from 0)) [] ∷
      port_of 1 r_o Clock ClockOutput [] ∷ port_of 1 r_y Int32 Output (port_ids (2 ∷ []))
      ∷ port_of 2 t_c Clock (ClockInput (feed_from 2)) [] ∷ port_of 2 t_u Int32 (Input None) [] ∷
      port_of 2 t_y Int32 Output [] ∷ [];
  instant_order = port_ids (0 ∷ 1 ∷ 2 ∷ 3 ∷ 4 ∷ 5 ∷ 6 ∷ []);
  initial_order = port_ids (0 ∷ 1 ∷ 5 ∷ 6 ∷ []);
}

abbrev pub counted_run : Run
counted_run = record {
  system = system;
  bound = unbound;
  machines =
      machine_of counter_shape counter ∷ machine_of relay_shape (relay relay_shape) ∷
      machine_of ticker_shape ticker ∷ [];
  plan = plan_by 10 100;
}

abbrev pub v0 : List (Option ℤ)
v0 = Some (pos 0) ∷ Some (pos 0) ∷ Some (pos 0) ∷ None ∷ Some (pos 0) ∷ None ∷ Some (pos 0) ∷ []

abbrev pub v10 : List (Option ℤ)
v10 =
    Some (pos 2) ∷ Some (pos 2) ∷ Some (pos 1) ∷ Some (pos 2) ∷ Some (pos 1) ∷
    None ∷ Some (pos 0) ∷ []

abbrev pub v20 : List (Option ℤ)
v20 =
    Some (pos 4) ∷ Some (pos 4) ∷ Some (pos 1) ∷ Some (pos 4) ∷ Some (pos 1) ∷
    None ∷ Some (pos 1) ∷ []

abbrev pub counted_instants : List Instant
counted_instants = instant_at 0 0 v0 ∷ instant_at 10 0 v10 ∷ instant_at 20 0 v20 ∷ []
