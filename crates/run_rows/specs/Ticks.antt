-- A constant Clock ticks between the points of the grid, in the first instant of a point alone, its input keeps its value in the next, and Update makes it inactive: `settle` with k 1 feeds the u of an FMU that counts its Updates with its Clock active (FMI 3.0, 2.1.5: super-dense time; 2.2.8: constant Clocks).
use Rattle.std.specs.Prelude.{ℕ, ℤ, pos, true, List, [], ◌∷◌, Option, Some, None, codes}
use Rattle.value_types.specs.declared.values.PortType.TheVariants.{Int32, Clock}
use Rattle.value_types.specs.declared.shape.Variable.{Variable}
use Rattle.value_types.specs.declared.shape.Knowns.TheVariants.{AllInputs}
use Rattle.value_types.specs.declared.shape.Shape.{Shape}
use Rattle.system_model.specs.declared.system.Role.TheVariants.{Input, Output, TimeClock}
use Rattle.system_model.specs.declared.system.Timing.TheVariants.{Periodic}
use Rattle.system_model.specs.declared.system.System.{System}
use Rattle.system_model.specs.Text.{Instant, instant_at}
use Rattle.run_model.specs.Run.{Run}
use Rattle.run_rows.specs.Parts.{parameter, input, input_clock, output, constant_timing, shape_of, component_of, port_of, feed_from, port_ids, unbound, plan_by}
use Rattle.run_rows.specs.Machines.{machine_of, ticker, settle}

abbrev pub s_y : Variable
s_y = output (codes "y") 2 []

abbrev pub c : Variable
c = input_clock (codes "c") 1

abbrev pub u : Variable
u = input (codes "u") 2 (1 ∷ []) None

abbrev pub y : Variable
y = output (codes "y") 3 []

abbrev pub settle_shape : Shape
settle_shape =
    shape_of true (parameter (codes "k") 1 (pos 1) ∷ s_y ∷ []) []
    (record { output = 2; on = AllInputs } ∷ [])

abbrev pub ticker_shape : Shape
ticker_shape =
    shape_of true (c ∷ u ∷ y ∷ [])
    (constant_timing 1 (record { counter = 1; resolution = 100 })
    (record { counter = 0; resolution = 1 }) ∷ []) (record { output = 3; on = AllInputs } ∷ [])

abbrev pub system : System
system = record {
  components =
      component_of 0 (codes "s") settle_shape ∷ component_of 1 (codes "t") ticker_shape ∷ [];
  ports =
      port_of 0 s_y Int32 Output [] ∷ port_of 1 c Clock (TimeClock (Periodic 10 0)) [] ∷
      port_of 1 u Int32 (Input (feed_from 0)) (port_ids (1 ∷ [])) ∷
      port_of 1 y Int32 Output [] ∷ [];
  instant_order = port_ids (0 ∷ 1 ∷ 2 ∷ 3 ∷ []);
  initial_order = port_ids (0 ∷ 3 ∷ []);
}

abbrev pub ticks_run : Run
ticks_run = record {
  system = system;
  bound = unbound;
  machines =
      machine_of settle_shape settle ∷ machine_of ticker_shape ticker ∷ [];
  plan =
      plan_by 20 100;
}

-- the values of the settling y, the Clock, its input, and the number of Updates with it active
abbrev pub values : ℕ → ℕ → ℕ → List (Option ℤ)
values settled clock ticks =
    Some (pos settled) ∷ Some (pos clock) ∷ Some (pos 0) ∷ Some (pos ticks) ∷ []

abbrev pub ticks_instants : List Instant
ticks_instants =
    instant_at 0 0 (values 0 1 0) ∷ instant_at 0 1 (values 1 0 1)
    ∷ instant_at 10 0 (values 0 1 1) ∷ instant_at 10 1 (values 1 0 2)
    ∷ instant_at 20 0 (values 0 1 2) ∷ instant_at 20 1 (values 1 0 3) ∷ []
