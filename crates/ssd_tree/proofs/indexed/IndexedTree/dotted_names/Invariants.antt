use Rattle.std.proofs.Common.{take}
use Rattle.ssd_tree.specs.Names.{AreDotted}
use Rattle.ssd_tree.proofs.indexed.IndexedTree.dotted_names.Given as goal

abbrev pub invariant-loop-node : goal.invariant-loop-node
invariant-loop-node l = AreDotted l.self.tree.now (take l.node-index l.self.lists.systems.items) l.names.items
