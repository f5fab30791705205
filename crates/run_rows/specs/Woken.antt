-- A next event time: `waker`, which asks for an instant at 7, stands beside a counter, which steps to 7 on its way to 10 (FMI 3.0, 4.2.1: fmi3UpdateDiscreteStates and nextEventTime).
use Rattle.std.specs.Prelude.{ℕ, ℤ, pos, true, List, [], ◌∷◌, Option, Some, codes}
use Rattle.value_types.specs.declared.values.PortType.TheVariants.{Int32}
use Rattle.value_types.specs.declared.shape.Variable.{Variable}
use Rattle.value_types.specs.declared.shape.Knowns.TheVariants.{AllInputs, Listed}
use Rattle.value_types.specs.declared.shape.Shape.{Shape}
use Rattle.system_model.specs.declared.system.Role.TheVariants.{Output}
use Rattle.system_model.specs.declared.system.System.{System}
use Rattle.system_model.specs.Text.{Instant, instant_at}
use Rattle.run_model.specs.Run.{Run}
use Rattle.run_rows.specs.Parts.{parameter, output, shape_of, component_of, port_of, port_ids, unbound, plan_by}
use Rattle.run_rows.specs.Machines.{machine_of, counter, waker}

abbrev pub y : Variable
y = output (codes "y") 2 []

abbrev pub counter_shape : Shape
counter_shape =
    shape_of true (parameter (codes "inc") 1 (pos 2) ∷ y ∷ []) []
    (record { output = 2; on = Listed [] } ∷ [])

abbrev pub waker_shape : Shape
waker_shape =
    shape_of true (parameter (codes "at") 1 (pos 7) ∷ y ∷ []) []
    (record { output = 2; on = AllInputs } ∷ [])

abbrev pub system : System
system = record {
  components =
      component_of 0 (codes "w") waker_shape ∷ component_of 1 (codes "c") counter_shape ∷ [];
  ports = port_of 0 y Int32 Output [] ∷ port_of 1 y Int32 Output [] ∷ [];
  instant_order = port_ids (0 ∷ 1 ∷ []);
  initial_order = port_ids (0 ∷ 1 ∷ []);
}

abbrev pub woken_run : Run
woken_run = record {
  system = system;
  bound = unbound;
  machines = machine_of waker_shape waker ∷ machine_of counter_shape counter ∷ [];
  plan = plan_by 10 100;
}

-- the number of Updates at 7, and the count
abbrev pub values : ℕ → ℕ → List (Option ℤ)
values wakes count = Some (pos wakes) ∷ Some (pos count) ∷ []

abbrev pub woken_instants : List Instant
woken_instants =
    instant_at 0 0 (values 0 0) ∷ instant_at 7 0 (values 0 2) ∷ instant_at 10 0 (values 1 4) ∷
    instant_at 20 0 (values 1 6) ∷ []
