use Rattle.std.proofs.Common.{◌≡◌, take}
use Rattle.system_model.specs.Ports.{port_numbers}
use Rattle.port_orders.proofs.orders.port_ids.Given as goal

abbrev pub invariant-loop-node : goal.invariant-loop-node
invariant-loop-node l = port_numbers l.ports.items ≡ take l.node-index l.nodes
