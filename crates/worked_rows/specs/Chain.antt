-- Two gains by 3, the second fed by the first (SSP 1.0: connections). The first shows the product of what it held when time last went on, the second that of its input.
use Rattle.std.specs.Prelude.{ℕ, pos, true, false, List, [], ◌∷◌, Some, None, codes}
use Rattle.sim_base.specs.declared.numbers.PortId.{PortId}
use Rattle.value_types.specs.declared.values.PortType.TheVariants as T
use Rattle.value_types.specs.declared.shape.Causality.TheVariants as V
use Rattle.value_types.specs.declared.shape.Knowns.TheVariants.{Listed}
use Rattle.value_types.specs.declared.shape.Shape.{Shape}
use Rattle.system_model.specs.declared.system.Role.{Role}
use Rattle.system_model.specs.declared.system.Role.TheVariants.{Input, Output}
use Rattle.system_model.specs.declared.system.Port.{Port}
use Rattle.system_model.specs.declared.system.System.{System}
use Rattle.worked_rows.specs.Trio.{component, number}

-- a gain whose input starts at 5, and whose output depends on these
abbrev pub gain_on : List ℕ → Shape
gain_on inputs = record {
  identifier = codes "gain";
  token = codes "{3}";
  resolution = 1000;
  has_event_mode = false;
  might_return_early = false;
  has_variable_steps = true;
  can_save_state = true;
  can_serialize_state = false;
  variables =
      number (codes "k") 1 V.Parameter (Some (pos 3)) ∷
      number (codes "u") 2 V.Input (Some (pos 5)) ∷ number (codes "y") 3 V.Output None ∷ [];
  clocks = [];
  dependencies = record { output = 3; on = Listed inputs } ∷ [];
  initial_dependencies = record { output = 3; on = Listed inputs } ∷ [];
}

abbrev pub port_of : ℕ → List ℕ → ℕ → Role → Port
port_of i name reference role = record {
  component = record { 0 = i };
  name = name;
  kind = T.Int32;
  reference = reference;
  role = role;
  clocks = [];
}

abbrev pub by_place : List PortId
by_place = record { 0 = 0 } ∷ record { 0 = 1 } ∷ record { 0 = 2 } ∷ record { 0 = 3 } ∷ []

abbrev pub chain : System
chain = record {
  components =
      component (codes "first") 0 (gain_on []) ∷
      component (codes "second") 1 (gain_on (2 ∷ [])) ∷ [];
  ports =
      port_of 0 (codes "u") 2 (Input None) ∷ port_of 0 (codes "y") 3 Output ∷
      port_of 1 (codes "u") 2 (Input (Some (record { from = record { 0 = 1 }; changes = [] }))) ∷
      port_of 1 (codes "y") 3 Output ∷ [];
  instant_order = by_place;
  initial_order = by_place;
}
