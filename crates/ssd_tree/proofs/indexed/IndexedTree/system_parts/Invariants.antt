use Rattle.std.proofs.Common.{take}
use Rattle.std.specs.List.{AllZip}
use Rattle.ssd_tree.specs.Indexed.{nodes_of}
use Rattle.ssd_tree.specs.Parts.{IsSystemPart}
use Rattle.ssd_tree.proofs.indexed.IndexedTree.system_parts.Given as goal

abbrev pub invariant-loop-node : goal.invariant-loop-node
invariant-loop-node l = AllZip (IsSystemPart l.self.tree.now (nodes_of l.self.lists)) (take l.node-index l.self.lists.systems.items) l.parts.items
