-- A countdown Clock that is armed for its own point ticks in the next instant there: `timer` with when 20 and wait 0 (FMI 3.0, 2.2.8: countdown Clocks).
use Rattle.std.specs.Prelude.{ℤ, pos, true, List, [], ◌∷◌, Option, Some, codes}
use Rattle.value_types.specs.declared.values.PortType.TheVariants.{Int32, Clock}
use Rattle.value_types.specs.declared.shape.IntervalVariability.TheVariants as v
use Rattle.value_types.specs.declared.shape.Variable.{Variable}
use Rattle.value_types.specs.declared.shape.Knowns.TheVariants.{AllInputs}
use Rattle.value_types.specs.declared.shape.Shape.{Shape}
use Rattle.system_model.specs.declared.system.Role.TheVariants.{Output, TimeClock}
use Rattle.system_model.specs.declared.system.Timing.TheVariants.{Countdown}
use Rattle.system_model.specs.declared.system.System.{System}
use Rattle.system_model.specs.Text.{Instant, instant_at}
use Rattle.run_model.specs.Run.{Run}
use Rattle.run_rows.specs.Parts.{parameter, input_clock, output, timing_of, shape_of, component_of, port_of, port_ids, unbound, plan_by}
use Rattle.run_rows.specs.Machines.{machine_of, timer}

abbrev pub c : Variable
c = input_clock (codes "c") 2

abbrev pub y : Variable
y = output (codes "y") 3 []

abbrev pub shape : Shape
shape =
    shape_of true (parameter (codes "when") 1 (pos 20) ∷ parameter (codes "wait") 4 (pos 0) ∷ c ∷
    y ∷ []) (timing_of 2 v.Countdown ∷ [])
    (record { output = 3; on = AllInputs } ∷ [])

abbrev pub system : System
system = record {
  components = component_of 0 (codes "t") shape ∷ [];
  ports = port_of 0 c Clock (TimeClock Countdown) [] ∷ port_of 0 y Int32 Output [] ∷ [];
  instant_order = port_ids (0 ∷ 1 ∷ []);
  initial_order = port_ids (1 ∷ []);
}

abbrev pub timer_run : Run
timer_run = record {
  system = system;
  bound = unbound;
  machines = machine_of shape timer ∷ [];
  plan = plan_by 10 100;
}

abbrev pub quiet : List (Option ℤ)
quiet = Some (pos 0) ∷ Some (pos 0) ∷ []

abbrev pub ticked : List (Option ℤ)
ticked = Some (pos 1) ∷ Some (pos 0) ∷ []

abbrev pub timer_instants : List Instant
timer_instants =
    instant_at 0 0 quiet ∷ instant_at 10 0 quiet ∷ instant_at 20 0 quiet ∷
    instant_at 20 1 ticked ∷ []
