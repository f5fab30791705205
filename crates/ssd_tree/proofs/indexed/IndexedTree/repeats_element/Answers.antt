use Rattle.ssd_tree.specs.Elements.{element_key}
use Rattle.ssd_tree.proofs.indexed.IndexedTree.repeats_element.Goals as goal

pub returns : goal.returns
returns c = c.is_repeated.ensures (element_key c.args.self.now.tree.now) c.requires.elements c.element_key.ensures
