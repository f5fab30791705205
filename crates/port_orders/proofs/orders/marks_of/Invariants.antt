use Rattle.std.proofs.Common.{◌≡◌, map, take}
use Rattle.port_orders.specs.Gathered.{has_part}
use Rattle.port_orders.proofs.orders.marks_of.Given as goal

abbrev pub invariant-loop-port : goal.invariant-loop-port
invariant-loop-port l = l.marks.items ≡ map (has_part l.initializing) (take l.port-index l.ports)
