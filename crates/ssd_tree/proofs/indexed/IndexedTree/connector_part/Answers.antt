use Rattle.std.proofs.Common.{refl, sym, ◌∙◌}
use Rattle.ssd_tree.proofs.PartLemmas.{connector_named, connector_kinded}
use Rattle.ssd_tree.proofs.indexed.IndexedTree.connector_part.Goals as goal

pub text-requires : goal.text-requires
text-requires c = connector_named c.args.self.now.tree.now c.args.node c.requires.sound c.requires.is

pub unwrap-requires : goal.unwrap-requires
unwrap-requires c = rw c.kind_of.ensures (connector_kinded c.args.self.now.tree.now c.args.node c.requires.sound c.requires.is)

pub returns : goal.returns
returns c = record {
  node = refl;
  part = c.requires.is.1.0;
  of = c.requires.is.1.1;
  owner = c.owner.ensures c.requires.is.1.0 c.requires.is.1.1;
  name = c.in_ok-text.ensures;
  kind = sym c.kind_of.ensures ∙ c.unwrap.ensures;
  child = c.type_of.ensures;
}
