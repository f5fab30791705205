use Rattle.ssd_tree.specs.Elements.{mapping_key}
use Rattle.ssd_tree.proofs.indexed.IndexedTree.repeats_mapping.Goals as goal

pub returns : goal.returns
returns c = c.is_repeated.ensures (mapping_key c.args.self.now.tree.now) c.requires.mappings c.mapping_key.ensures
