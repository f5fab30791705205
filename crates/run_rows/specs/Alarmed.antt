-- Early return: an FMU that ends the step from 0 at 7 stands beside a counter, which steps to 7 in place of 10, from where it stood (FMI 3.0, 4.2.1.2: fmi3DoStep and early return).
use Rattle.std.specs.Prelude.{ℕ, ℤ, pos, true, List, [], ◌∷◌, Option, Some, codes}
use Rattle.value_types.specs.declared.values.PortType.TheVariants.{Int32}
use Rattle.value_types.specs.declared.shape.Variable.{Variable}
use Rattle.value_types.specs.declared.shape.Knowns.TheVariants.{Listed}
use Rattle.value_types.specs.declared.shape.Shape.{Shape}
use Rattle.system_model.specs.declared.system.Role.TheVariants.{Output}
use Rattle.system_model.specs.declared.system.System.{System}
use Rattle.system_model.specs.Text.{Instant, instant_at}
use Rattle.run_model.specs.Run.{Run}
use Rattle.run_rows.specs.Parts.{parameter, output, shape_of, component_of, port_of, port_ids, unbound, plan_by}
use Rattle.run_rows.specs.Machines.{machine_of, counter, alarm}

abbrev pub y : Variable
y = output (codes "y") 2 []

abbrev pub counter_shape : Shape
counter_shape =
    shape_of true (parameter (codes "inc") 1 (pos 2) ∷ y ∷ []) []
    (record { output = 2; on = Listed [] } ∷ [])

abbrev pub alarm_shape : Shape
alarm_shape =
    record (shape_of true (parameter (codes "at") 1 (pos 7) ∷ y ∷ []) []
    (record { output = 2; on = Listed [] } ∷ [])) { might_return_early = true }

abbrev pub system : System
system = record {
  components =
      component_of 0 (codes "c") counter_shape ∷ component_of 1 (codes "a") alarm_shape ∷ [];
  ports = port_of 0 y Int32 Output [] ∷ port_of 1 y Int32 Output [] ∷ [];
  instant_order = port_ids (0 ∷ 1 ∷ []);
  initial_order = port_ids (0 ∷ 1 ∷ []);
}

abbrev pub alarmed_run : Run
alarmed_run = record {
  system = system;
  bound = unbound;
  machines =
      machine_of counter_shape counter ∷ machine_of alarm_shape alarm ∷ [];
  plan =
      plan_by 10 100;
}

-- the count, and how often the alarm went
abbrev pub values : ℕ → ℕ → List (Option ℤ)
values count alarms = Some (pos count) ∷ Some (pos alarms) ∷ []

abbrev pub alarmed_instants : List Instant
alarmed_instants =
    instant_at 0 0 (values 0 0) ∷ instant_at 7 0 (values 2 1) ∷ instant_at 10 0 (values 4 1) ∷
    instant_at 20 0 (values 6 1) ∷ []
