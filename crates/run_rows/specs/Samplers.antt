-- Clocked ports keep their values between the ticks: sampler a ticks at 10 counts and then each second, its u is unconnected and starts at 7, and its y feeds the u of sampler b, which ticks each hundredth of a second (FMI 3.0, 2.2.8: constant Clocks).
use Rattle.std.specs.Prelude.{ℤ, pos, true, List, [], ◌∷◌, Option, Some, None, codes}
use Rattle.value_types.specs.declared.values.PortType.TheVariants.{Int32, Clock}
use Rattle.value_types.specs.declared.shape.ClockTiming.{ClockTiming}
use Rattle.value_types.specs.declared.shape.Variable.{Variable}
use Rattle.value_types.specs.declared.shape.Knowns.TheVariants.{Listed}
use Rattle.value_types.specs.declared.shape.Shape.{Shape}
use Rattle.system_model.specs.declared.system.Role.TheVariants.{Input, Output, TimeClock}
use Rattle.system_model.specs.declared.system.Timing.TheVariants.{Periodic}
use Rattle.system_model.specs.declared.system.System.{System}
use Rattle.system_model.specs.Text.{Instant, instant_at}
use Rattle.run_model.specs.Run.{Run}
use Rattle.run_rows.specs.Parts.{input, input_clock, output, constant_timing, shape_of, component_of, port_of, feed_from, port_ids, unbound, plan_by}
use Rattle.run_rows.specs.Machines.{machine_of, sampler}

abbrev pub c : Variable
c = input_clock (codes "c") 1

abbrev pub a_u : Variable
a_u = input (codes "u") 2 (1 ∷ []) (Some (pos 7))

abbrev pub b_u : Variable
b_u = input (codes "u") 2 (1 ∷ []) (Some (pos 0))

abbrev pub y : Variable
y = output (codes "y") 3 (1 ∷ [])

abbrev pub sampler_shape : Variable → ClockTiming → Shape
sampler_shape u timing =
    shape_of true (c ∷ u ∷ y ∷ []) (timing ∷ []) (record { output = 3; on = Listed (2 ∷ []) } ∷ [])

abbrev pub a_shape : Shape
a_shape =
    sampler_shape a_u (constant_timing 1 (record { counter = 1; resolution = 1 })
    (record { counter = 1; resolution = 100 }))

abbrev pub b_shape : Shape
b_shape =
    sampler_shape b_u (constant_timing 1 (record { counter = 1; resolution = 100 })
    (record { counter = 0; resolution = 1 }))

abbrev pub system : System
system = record {
  components = component_of 0 (codes "a") a_shape ∷ component_of 1 (codes "b") b_shape ∷ [];
  ports =
      port_of 0 c Clock (TimeClock (Periodic 1000 10)) [] ∷
      port_of 0 a_u Int32 (Input None) (port_ids (0 ∷ [])) ∷
      port_of 0 y Int32 Output (port_ids (0 ∷ []))
      ∷ port_of 1 c Clock (TimeClock (Periodic 10 0)) [] ∷
      port_of 1 b_u Int32 (Input (feed_from 2)) (port_ids (3 ∷ [])) ∷
      port_of 1 y Int32 Output (port_ids (3 ∷ [])) ∷ [];
  instant_order = port_ids (0 ∷ 1 ∷ 2 ∷ 3 ∷ 4 ∷ 5 ∷ []);
  initial_order = [];
}

abbrev pub samplers_run : Run
samplers_run = record {
  system = system;
  bound = unbound;
  machines =
      machine_of a_shape (sampler a_shape) ∷ machine_of b_shape (sampler b_shape) ∷ [];
  plan =
      plan_by 10 100;
}

abbrev pub v0 : List (Option ℤ)
v0 = Some (pos 0) ∷ None ∷ None ∷ Some (pos 1) ∷ None ∷ Some (pos 0) ∷ []

abbrev pub v10 : List (Option ℤ)
v10 = Some (pos 1) ∷ None ∷ Some (pos 7) ∷ Some (pos 1) ∷ Some (pos 7) ∷ Some (pos 7) ∷ []

abbrev pub v20 : List (Option ℤ)
v20 = Some (pos 0) ∷ None ∷ Some (pos 7) ∷ Some (pos 1) ∷ Some (pos 7) ∷ Some (pos 7) ∷ []

abbrev pub samplers_instants : List Instant
samplers_instants = instant_at 0 0 v0 ∷ instant_at 10 0 v10 ∷ instant_at 20 0 v20 ∷ []
