use Rattle.std.proofs.Common.{◌≡◌, take, get_or, false}
use Rattle.std.specs.List.{filter}
use Rattle.port_orders.proofs.orders.marked_nodes.Given as goal

abbrev pub invariant-loop-node : goal.invariant-loop-node
invariant-loop-node l = l.kept.items ≡ filter (λ p. get_or l.marks p false) (take l.node-index l.nodes)
