use Rattle.ssd_tree.proofs.PartLemmas.{values_there}
use Rattle.ssd_tree.proofs.parts.values.Goals as goal

pub origin-requires : goal.origin-requires
origin-requires c = rw c.first_child-inner.ensures (values_there c.args.tree.now c.args.node c.requires.sound c.requires.is)
