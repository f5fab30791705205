-- The simplest systems: FMUs whose ports are outputs, side by side (SSP 1.0: a system of components without connections).
use Rattle.std.specs.Prelude.{◌≡◌, ◌⊎◌, ℕ, ◌<◌, ◌≤◌, ◌^◌, false, [], length, map, All}
use Rattle.std.specs.List.{range_with_len}
use Rattle.value_types.specs.Shape.{is_clock, is_input_port}
use Rattle.value_types.specs.declared.shape.Variable.{Variable}
use Rattle.value_types.specs.declared.shape.Knowns.TheVariants.{AllInputs, Listed}
use Rattle.value_types.specs.declared.shape.Dependency.{Dependency}
use Rattle.value_types.specs.declared.shape.Shape.{Shape}
use Rattle.system_model.specs.declared.system.Component.{Component}
use Rattle.system_model.specs.declared.system.Role.TheVariants.{Output}
use Rattle.system_model.specs.declared.system.Port.{Port}
use Rattle.system_model.specs.declared.system.System.{System}
use Rattle.system_model.specs.Ports.{port_numbers, label_of, labels_from}
use Rattle.system_model.specs.Shapes.{IsSoundShape}

-- a sound shape without event mode, early return, inputs and Clocks, whose outputs depend on no port in Initialization Mode
pub record HasOutputsAlone (shape : Shape) : Type 0 where
  pub sound : IsSoundShape shape
  pub no_events : shape.has_event_mode ≡ false
  pub no_early : shape.might_return_early ≡ false
  pub no_inputs : All (λ (v : Variable). is_input_port v ≡ false) shape.variables
  pub no_clocks : All (λ (v : Variable). is_clock v ≡ false) shape.variables
  pub independent : All (λ (d : Dependency). (d.on ≡ AllInputs) ⊎
      (d.on ≡ Listed [])) shape.initial_dependencies

-- components of such shapes, each with a name and all at one resolution; both orders take their ports by number
pub record IsOfOutputs (system : System) : Type 0 where
  pub few : length system.components ≤ 256
  pub named : All (λ (c : Component). 0 < length c.name) system.components
  pub shapes : All (λ (c : Component). HasOutputsAlone c.shape) system.components
  pub per_second : ℕ
  pub above : 0 < per_second
  pub within : per_second ≤ 2 ^ 62
  pub resolutions : All (λ (c : Component). c.shape.resolution ≡ per_second) system.components
  pub few_ports : length system.ports ≤ 65536
  pub numbered : map label_of system.ports ≡ labels_from 0 system.components
  pub outputs : All (λ (port : Port). (port.role ≡ Output) × (port.clocks ≡ [])) system.ports
  pub instant_order : port_numbers system.instant_order ≡ range_with_len 0 (length system.ports)
  pub initial_order : port_numbers system.initial_order ≡ range_with_len 0 (length system.ports)
