-- Components and ports that name each other by numbers that there are.
use Rattle.std.specs.Prelude.{ℕ, ◌<◌, ◌≤◌, ◌^◌, List, length, IfSome, All}
use Rattle.system_model.specs.declared.system.Component.{Component}
use Rattle.system_model.specs.declared.system.Port.{Port}
use Rattle.sim_base.specs.declared.numbers.PortId.{PortId}
use Rattle.system_model.specs.Ports.{source_of}

-- its component, its source and its Clocks are among so many components and ports
pub record IsPlaced (components ports : ℕ) (port : Port) : Type 0 where
  pub component : port.component.0 < components
  pub source : IfSome (source_of port.role) (λ q. q < ports)
  pub clocks : All (λ (clock : PortId). clock.0 < ports) port.clocks

pub record ArePlaced (components : List Component) (ports : List Port) : Type 0 where
  pub few_components : length components ≤ 2 ^ 32
  pub few_ports : length ports ≤ 2 ^ 32
  pub each : All (IsPlaced (length components) (length ports)) ports
