-- A changing Clock: `pulse` with d 3 and s 2 ticks first after the shift s, and after each tick one count later than the time before, at first after d (FMI 3.0, 2.2.8: changing Clocks; 2.2.9: fmi3GetIntervalFraction, fmi3GetShiftFraction).
use Rattle.std.specs.Prelude.{ℕ, ℤ, pos, true, List, [], ◌∷◌, Option, Some, codes}
use Rattle.value_types.specs.declared.values.PortType.TheVariants.{Int32, Clock}
use Rattle.value_types.specs.declared.shape.IntervalVariability.TheVariants as v
use Rattle.value_types.specs.declared.shape.Variable.{Variable}
use Rattle.value_types.specs.declared.shape.Knowns.TheVariants.{AllInputs}
use Rattle.value_types.specs.declared.shape.Shape.{Shape}
use Rattle.system_model.specs.declared.system.Role.TheVariants.{Output, TimeClock}
use Rattle.system_model.specs.declared.system.Timing.TheVariants.{Changing}
use Rattle.system_model.specs.declared.system.System.{System}
use Rattle.system_model.specs.Text.{Instant, instant_at}
use Rattle.run_model.specs.Run.{Run}
use Rattle.run_rows.specs.Parts.{parameter, input_clock, output, timing_of, shape_of, component_of, port_of, port_ids, unbound, plan_by}
use Rattle.run_rows.specs.Machines.{machine_of, pulse}

abbrev pub c : Variable
c = input_clock (codes "c") 1

abbrev pub y : Variable
y = output (codes "y") 4 []

abbrev pub shape : Shape
shape =
    shape_of true (c ∷ parameter (codes "d") 2 (pos 3) ∷ parameter (codes "s") 3 (pos 2) ∷
    y ∷ []) (timing_of 1 v.Changing ∷ [])
    (record { output = 4; on = AllInputs } ∷ [])

abbrev pub system : System
system = record {
  components = component_of 0 (codes "p") shape ∷ [];
  ports = port_of 0 c Clock (TimeClock Changing) [] ∷ port_of 0 y Int32 Output [] ∷ [];
  instant_order = port_ids (0 ∷ 1 ∷ []);
  initial_order = port_ids (1 ∷ []);
}

abbrev pub pulsed_run : Run
pulsed_run = record {
  system = system;
  bound = unbound;
  machines = machine_of shape pulse ∷ [];
  plan = plan_by 10 100;
}

-- the values of the Clock, and the number of Updates with the Clock active
abbrev pub values : ℕ → ℕ → List (Option ℤ)
values clock ticks = Some (pos clock) ∷ Some (pos ticks) ∷ []

abbrev pub pulsed_instants : List Instant
pulsed_instants =
    instant_at 0 0 (values 0 0) ∷ instant_at 2 0 (values 1 0) ∷ instant_at 5 0 (values 1 1) ∷
    instant_at 9 0 (values 1 2) ∷ instant_at 10 0 (values 0 3) ∷ instant_at 14 0 (values 1 3) ∷
    instant_at 20 0 (values 1 4) ∷ []
