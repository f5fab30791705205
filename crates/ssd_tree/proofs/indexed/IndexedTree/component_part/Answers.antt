use Rattle.std.proofs.Common.{refl}
use Rattle.ssd_tree.proofs.PartLemmas.{component_sourced}
use Rattle.ssd_tree.proofs.indexed.IndexedTree.component_part.Goals as goal

pub source-requires : goal.source-requires
source-requires c = component_sourced c.args.self.now.tree.now c.args.node c.requires.sound c.requires.is

pub returns : goal.returns
returns c = record { node = refl; system = c.system_of.ensures; name = c.in_ok-full_name.ensures; source = c.in_ok-source.ensures }
