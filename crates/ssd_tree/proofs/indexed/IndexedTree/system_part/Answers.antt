use Rattle.std.proofs.Common.{refl}
use Rattle.ssd_tree.proofs.PartLemmas.{system_named}
use Rattle.ssd_tree.proofs.indexed.IndexedTree.system_part.Goals as goal

pub text-requires : goal.text-requires
text-requires c = system_named c.args.self.now.tree.now c.args.node c.requires.sound c.requires.is

pub returns : goal.returns
returns c = record { node = refl; outer = c.outer_system.ensures; name = c.in_ok-text.ensures }
