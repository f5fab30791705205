use Rattle.std.proofs.Common.{codes}
use Rattle.ssd_tree.proofs.PartLemmas.{mapping_none}
use Rattle.ssd_tree.proofs.indexed.IndexedTree.mapping.Goals as goal

pub returns-in-None : goal.returns-in-None
returns-in-None c =
    mapping_none c.args.self.now.tree.now c.args.node c.find.result c.in-None.is (rw (← c.find.ensures) at (c.requires.indexed.mappings (c.args.node, codes "ParameterMapping")))
