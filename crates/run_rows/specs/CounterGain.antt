-- A counter feeds a gain in an inner system, whose k is bound to 3: with event mode y follows u in the same instant, and without it y is one step late (FMI 3.0, 4.2.1: Event Mode, Step Mode; SSP 1.0: connections through systems, parameter bindings).
use Rattle.std.specs.Prelude.{ℤ, pos, Bool, List, [], ◌∷◌, Option, Some, None, codes}
use Rattle.value_types.specs.declared.values.PortType.TheVariants.{Int32}
use Rattle.value_types.specs.declared.shape.Variable.{Variable}
use Rattle.value_types.specs.declared.shape.Knowns.TheVariants.{AllInputs, Listed}
use Rattle.value_types.specs.declared.shape.Shape.{Shape}
use Rattle.system_model.specs.declared.system.Role.TheVariants.{Input, Output}
use Rattle.system_model.specs.declared.system.System.{System}
use Rattle.system_model.specs.Text.{Instant, instant_at}
use Rattle.run_model.specs.Run.{Run}
use Rattle.run_rows.specs.Parts.{parameter, input, output, shape_of, component_of, port_of, feed_from, port_ids, plan_by}
use Rattle.run_rows.specs.Machines.{machine_of, counter, gain}

abbrev pub c_y : Variable
c_y = output (codes "y") 2 []

abbrev pub u : Variable
u = input (codes "u") 2 [] None

abbrev pub y : Variable
y = output (codes "y") 3 []

abbrev pub counter_shape : Bool → Shape
counter_shape has_event_mode =
    shape_of has_event_mode (parameter (codes "inc") 1 (pos 2) ∷ c_y ∷ []) []
    (record { output = 2; on = Listed [] } ∷ [])

abbrev pub gain_shape : Bool → Shape
gain_shape has_event_mode =
    shape_of has_event_mode (parameter (codes "k") 1 (pos 1) ∷ u ∷ y ∷ []) []
    (record { output = 3; on = AllInputs } ∷ [])

abbrev pub system : Bool → System
system has_event_mode = record {
  components =
      component_of 0 (codes "c") (counter_shape has_event_mode) ∷
      component_of 1 (codes "A.B.g") (gain_shape has_event_mode) ∷ [];
  ports =
      port_of 0 c_y Int32 Output [] ∷ port_of 1 u Int32 (Input (feed_from 0)) [] ∷
      port_of 1 y Int32 Output [] ∷ [];
  instant_order = port_ids (0 ∷ 1 ∷ 2 ∷ []);
  initial_order = port_ids (0 ∷ 1 ∷ 2 ∷ []);
}

abbrev pub counter_gain_run : Bool → Run
counter_gain_run has_event_mode = record {
  system = system has_event_mode;
  bound = record {
    components = [] ∷ (record { kind = Int32; reference = 1; value = pos 3 } ∷ []) ∷ [];
    unreached = 0;
  };
  machines =
      machine_of (counter_shape has_event_mode) counter ∷
      machine_of (gain_shape has_event_mode) (gain (gain_shape has_event_mode)) ∷ [];
  plan = plan_by 10 100;
}

abbrev pub v0 : List (Option ℤ)
v0 = Some (pos 0) ∷ Some (pos 0) ∷ Some (pos 0) ∷ []

abbrev pub v10 : List (Option ℤ)
v10 = Some (pos 2) ∷ Some (pos 2) ∷ Some (pos 6) ∷ []

abbrev pub v20 : List (Option ℤ)
v20 = Some (pos 4) ∷ Some (pos 4) ∷ Some (pos 12) ∷ []

abbrev pub with_events : List Instant
with_events = instant_at 0 0 v0 ∷ instant_at 10 0 v10 ∷ instant_at 20 0 v20 ∷ []

abbrev pub late10 : List (Option ℤ)
late10 = Some (pos 2) ∷ Some (pos 2) ∷ Some (pos 0) ∷ []

abbrev pub late20 : List (Option ℤ)
late20 = Some (pos 4) ∷ Some (pos 4) ∷ Some (pos 6) ∷ []

abbrev pub without_events : List Instant
without_events = instant_at 0 0 v0 ∷ instant_at 10 0 late10 ∷ instant_at 20 0 late20 ∷ []
