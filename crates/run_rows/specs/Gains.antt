-- The values of Initialization Mode are written: gain a, whose u is unconnected and starts at 5, feeds gain b, whose y depends on what b kept of its u when it left Initialization Mode; both have k 3 (FMI 3.0, 4.2.1: Initialization Mode).
use Rattle.std.specs.Prelude.{ℤ, pos, true, List, [], ◌∷◌, Option, Some, None, codes}
use Rattle.value_types.specs.declared.values.PortType.TheVariants.{Int32}
use Rattle.value_types.specs.declared.shape.Variable.{Variable}
use Rattle.value_types.specs.declared.shape.Knowns.TheVariants.{AllInputs, Listed}
use Rattle.value_types.specs.declared.shape.Shape.{Shape}
use Rattle.system_model.specs.declared.system.Role.TheVariants.{Input, Output}
use Rattle.system_model.specs.declared.system.System.{System}
use Rattle.system_model.specs.Text.{Instant, instant_at}
use Rattle.run_model.specs.Run.{Run}
use Rattle.run_rows.specs.Parts.{parameter, input, output, shape_of, component_of, port_of, feed_from, port_ids, unbound, plan_by}
use Rattle.run_rows.specs.Machines.{machine_of, gain}

abbrev pub k : Variable
k = parameter (codes "k") 1 (pos 3)

abbrev pub a_u : Variable
a_u = input (codes "u") 2 [] (Some (pos 5))

abbrev pub b_u : Variable
b_u = input (codes "u") 2 [] None

abbrev pub y : Variable
y = output (codes "y") 3 []

abbrev pub a_shape : Shape
a_shape = shape_of true (k ∷ a_u ∷ y ∷ []) [] (record { output = 3; on = AllInputs } ∷ [])

abbrev pub b_shape : Shape
b_shape = shape_of true (k ∷ b_u ∷ y ∷ []) [] (record { output = 3; on = Listed [] } ∷ [])

abbrev pub system : System
system = record {
  components = component_of 0 (codes "a") a_shape ∷ component_of 1 (codes "b") b_shape ∷ [];
  ports =
      port_of 0 a_u Int32 (Input None) [] ∷ port_of 0 y Int32 Output [] ∷
      port_of 1 b_u Int32 (Input (feed_from 1)) [] ∷ port_of 1 y Int32 Output [] ∷ [];
  instant_order = port_ids (0 ∷ 1 ∷ 2 ∷ 3 ∷ []);
  initial_order = port_ids (0 ∷ 1 ∷ 2 ∷ 3 ∷ []);
}

abbrev pub gains_run : Run
gains_run = record {
  system = system;
  bound = unbound;
  machines =
      machine_of a_shape (gain a_shape) ∷ machine_of b_shape (gain b_shape) ∷ [];
  plan =
      plan_by 10 100;
}

abbrev pub values : List (Option ℤ)
values = None ∷ Some (pos 15) ∷ Some (pos 15) ∷ Some (pos 45) ∷ []

abbrev pub gains_instants : List Instant
gains_instants = instant_at 0 0 values ∷ instant_at 10 0 values ∷ instant_at 20 0 values ∷ []
