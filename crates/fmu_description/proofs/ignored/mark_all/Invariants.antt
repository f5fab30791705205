use Rattle.std.proofs.Common.{take}
use Rattle.fmu_description.specs.Marks.{Marks}
use Rattle.fmu_description.proofs.ignored.mark_all.Given as goal

abbrev pub invariant-loop-node : goal.invariant-loop-node
invariant-loop-node l = Marks l.tree (take l.node-index l.nodes) l.initial.marks.items l.marks.items l.initial.work.items l.work.items
