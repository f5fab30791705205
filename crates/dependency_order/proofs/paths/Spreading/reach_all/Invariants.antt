use Rattle.std.proofs.Common.{take}
use Rattle.dependency_order.specs.Spreading.{Spreads}
use Rattle.dependency_order.proofs.paths.Spreading.reach_all.Given as goal

abbrev pub invariant-loop-node : goal.invariant-loop-node
invariant-loop-node l = Spreads l.through l.from (take l.node-index l.nodes) l.initial.self.found.items l.self.found.items l.initial.self.work.items l.self.work.items
