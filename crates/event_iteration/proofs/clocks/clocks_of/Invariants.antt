use Rattle.std.proofs.Common.{◌≡◌, map, take}
use Rattle.system_model.specs.declared.system.Port.{Port}
use Rattle.event_iteration.specs.Clocks.{first_clock}
use Rattle.event_iteration.proofs.clocks.clocks_of.Given as goal

abbrev pub invariant-loop-port : goal.invariant-loop-port
invariant-loop-port l = l.clocks.items ≡ map (λ (port : Port). first_clock port.role) (take l.port-index l.ports)
