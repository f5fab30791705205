-- The limit of instants at a point: `settle` with k 3, where a point has at most 3 instants (FMI 3.0, 4.2.1: fmi3UpdateDiscreteStates).
use Rattle.std.specs.Prelude.{ℤ, pos, true, List, [], ◌∷◌, Option, Some, codes}
use Rattle.value_types.specs.declared.values.PortType.TheVariants.{Int32}
use Rattle.value_types.specs.declared.shape.Variable.{Variable}
use Rattle.value_types.specs.declared.shape.Knowns.TheVariants.{AllInputs}
use Rattle.value_types.specs.declared.shape.Shape.{Shape}
use Rattle.system_model.specs.declared.system.Role.TheVariants.{Output}
use Rattle.system_model.specs.declared.system.System.{System}
use Rattle.system_model.specs.Text.{Instant, instant_at}
use Rattle.run_model.specs.Run.{Run}
use Rattle.run_rows.specs.Parts.{parameter, output, shape_of, component_of, port_of, port_ids, unbound, plan_by}
use Rattle.run_rows.specs.Machines.{machine_of, settle}

abbrev pub y : Variable
y = output (codes "y") 2 []

abbrev pub shape : Shape
shape =
    shape_of true (parameter (codes "k") 1 (pos 3) ∷ y ∷ []) []
    (record { output = 2; on = AllInputs } ∷ [])

abbrev pub system : System
system = record {
  components = component_of 0 (codes "s") shape ∷ [];
  ports = port_of 0 y Int32 Output [] ∷ [];
  instant_order = port_ids (0 ∷ []);
  initial_order = port_ids (0 ∷ []);
}

abbrev pub limit_run : Run
limit_run = record {
  system = system;
  bound = unbound;
  machines = machine_of shape settle ∷ [];
  plan = plan_by 10 3;
}

abbrev pub v0 : List (Option ℤ)
v0 = Some (pos 0) ∷ []

abbrev pub v1 : List (Option ℤ)
v1 = Some (pos 1) ∷ []

abbrev pub v2 : List (Option ℤ)
v2 = Some (pos 2) ∷ []

abbrev pub limit_instants : List Instant
limit_instants = instant_at 0 0 v0 ∷ instant_at 0 1 v1 ∷ instant_at 0 2 v2 ∷ []
