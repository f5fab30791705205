use Rattle.std.proofs.Common.{◌≡◌, map, take}
use Rattle.port_orders.specs.Gathered.{group_in}
use Rattle.port_orders.proofs.gathering.groups_of.Given as goal

abbrev pub invariant-loop-port : goal.invariant-loop-port
invariant-loop-port l = l.groups.items ≡ map (group_in l.components l.initializing) (take l.port-index l.ports)
