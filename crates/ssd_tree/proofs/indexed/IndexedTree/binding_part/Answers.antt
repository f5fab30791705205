use Rattle.std.proofs.Common.{refl, ◌∙◌}
use Rattle.ssd_tree.proofs.indexed.IndexedTree.binding_part.Goals as goal

pub returns : goal.returns
returns c = record {
  node = refl;
  part = c.requires.is.1.0;
  of = c.requires.is.1.1;
  owner = c.owner.ensures c.requires.is.1.0 c.requires.is.1.1;
  prefix = c.in_ok-from_str.ensures ∙ c.text_of.ensures;
  values = c.in_ok-values.ensures;
  mapping = c.in_ok-mapping.ensures;
}
