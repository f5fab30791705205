-- A fixed Clock ticks as its FMU answers in Initialization Mode: first after a hundredth of a second, then each hundredth (FMI 3.0, 2.2.8: fixed Clocks; 2.2.9: fmi3GetIntervalFraction, fmi3GetShiftFraction).
use Rattle.std.specs.Prelude.{ℕ, ℤ, pos, true, List, [], ◌∷◌, Option, Some, None, codes}
use Rattle.value_types.specs.declared.values.PortType.TheVariants.{Int32, Clock}
use Rattle.value_types.specs.declared.shape.IntervalVariability.TheVariants as v
use Rattle.value_types.specs.declared.shape.Variable.{Variable}
use Rattle.value_types.specs.declared.shape.Knowns.TheVariants.{AllInputs}
use Rattle.value_types.specs.declared.shape.Shape.{Shape}
use Rattle.system_model.specs.declared.system.Role.TheVariants.{Input, Output, TimeClock}
use Rattle.system_model.specs.declared.system.Timing.TheVariants.{Answered}
use Rattle.system_model.specs.declared.system.System.{System}
use Rattle.system_model.specs.Text.{Instant, instant_at}
use Rattle.run_model.specs.Run.{Run}
use Rattle.run_rows.specs.Parts.{input, input_clock, output, timing_of, shape_of, component_of, port_of, port_ids, unbound, plan_by}
use Rattle.run_rows.specs.Machines.{machine_of, fixed_ticker}

abbrev pub c : Variable
c = input_clock (codes "c") 1

abbrev pub u : Variable
u = input (codes "u") 2 (1 ∷ []) None

abbrev pub y : Variable
y = output (codes "y") 3 []

abbrev pub shape : Shape
shape =
    shape_of true (c ∷ u ∷ y ∷ []) (timing_of 1 v.Fixed ∷ [])
    (record { output = 3; on = AllInputs } ∷ [])

abbrev pub system : System
system = record {
  components = component_of 0 (codes "t") shape ∷ [];
  ports =
      port_of 0 c Clock (TimeClock Answered) [] ∷
      port_of 0 u Int32 (Input None) (port_ids (0 ∷ [])) ∷ port_of 0 y Int32 Output [] ∷ [];
  instant_order = port_ids (0 ∷ 1 ∷ 2 ∷ []);
  initial_order = port_ids (2 ∷ []);
}

abbrev pub fixed_run : Run
fixed_run = record {
  system = system;
  bound = unbound;
  machines = machine_of shape fixed_ticker ∷ [];
  plan = plan_by 20 100;
}

-- the values of the Clock, of the input that nothing feeds, and the number of Updates with the Clock active
abbrev pub values : ℕ → ℕ → List (Option ℤ)
values clock ticks = Some (pos clock) ∷ None ∷ Some (pos ticks) ∷ []

abbrev pub fixed_instants : List Instant
fixed_instants =
    instant_at 0 0 (values 0 0) ∷ instant_at 10 0 (values 1 0) ∷ instant_at 20 0 (values 1 1) ∷ []
