use Rattle.std.proofs.Common.{refl}
use Rattle.ssd_tree.proofs.PartLemmas.{component_named}
use Rattle.ssd_tree.proofs.indexed.IndexedTree.nested_part.Goals as goal

pub text-requires : goal.text-requires
text-requires c = component_named c.args.self.now.tree.now c.args.node c.requires.sound c.requires.is

pub returns-clause-is : goal.returns-clause-is
returns-clause-is c = record {
  node = refl;
  place = c.requires.place;
  own_name = c.in_ok-text.ensures;
  kind = c.requires.kind;
}
