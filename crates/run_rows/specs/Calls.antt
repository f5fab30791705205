-- The calls of a run: an FMU tells of each kind of call that changes its state how often it was sent (FMI 3.0, 4.2.1: the state machine of Co-Simulation).
use Rattle.std.specs.Prelude.{ℤ, pos, true, List, [], ◌∷◌, Option, Some, codes}
use Rattle.value_types.specs.declared.values.PortType.TheVariants.{Int32}
use Rattle.value_types.specs.declared.shape.Variable.{Variable}
use Rattle.value_types.specs.declared.shape.Knowns.TheVariants.{Listed}
use Rattle.value_types.specs.declared.shape.Shape.{Shape}
use Rattle.system_model.specs.declared.system.Role.TheVariants.{Output}
use Rattle.system_model.specs.declared.system.System.{System}
use Rattle.system_model.specs.Text.{Instant, instant_at}
use Rattle.run_model.specs.Run.{Run}
use Rattle.run_rows.specs.Parts.{output, shape_of, component_of, port_of, port_ids, unbound, plan_by}
use Rattle.run_rows.specs.Machines.{machine_of, tally}

abbrev pub y : Variable
y = output (codes "y") 1 []

abbrev pub shape : Shape
shape = shape_of true (y ∷ []) [] (record { output = 1; on = Listed [] } ∷ [])

abbrev pub system : System
system = record {
  components = component_of 0 (codes "t") shape ∷ [];
  ports = port_of 0 y Int32 Output [] ∷ [];
  instant_order = port_ids (0 ∷ []);
  initial_order = port_ids (0 ∷ []);
}

abbrev pub calls_run : Run
calls_run = record {
  system = system;
  bound = unbound;
  machines = machine_of shape tally ∷ [];
  plan = plan_by 10 100;
}

abbrev pub v0 : List (Option ℤ)
v0 = Some (pos 111) ∷ []

abbrev pub v10 : List (Option ℤ)
v10 = Some (pos 1111111) ∷ []

abbrev pub v20 : List (Option ℤ)
v20 = Some (pos 2222111) ∷ []

abbrev pub calls_instants : List Instant
calls_instants = instant_at 0 0 v0 ∷ instant_at 10 0 v10 ∷ instant_at 20 0 v20 ∷ []
