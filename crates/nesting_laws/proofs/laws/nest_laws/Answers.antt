use Rattle.std.proofs.Common.{subst, sym, ℕ}
use Rattle.structure_laws.specs.Orderly.{IsOrderly}
use Rattle.nesting_laws.specs.Proper.{AreBelow}
use Rattle.nesting_laws.proofs.PartLemmas.{parts_below}
use Rattle.nesting_laws.proofs.ProperLemmas as proper
use Rattle.nesting_laws.proofs.laws.nest_laws.Goals as goal

pub returns-clause-document : goal.returns-clause-document
returns-clause-document c = λ bytes t s d denotes says. record {
  orderly = subst (λ (n : ℕ). IsOrderly n d.tree) (sym says.elements) (c.orderly_trees.ensures.orderly bytes t d.tree denotes (s, says.sound) says.tree);
  named = c.named_trees.ensures bytes t d.tree denotes (s, says.sound) says.tree;
  placed = c.orderly_trees.ensures.placed bytes t d.tree s d.nested denotes (s, says.sound) says.tree says.nested;
  nested = c.orderly_trees.ensures.named bytes t d.tree s d.nested denotes (s, says.sound) says.tree says.nested;
  whole = c.whole_documents.ensures s t d.tree d.nested says.sound says.tree says.nested;
  parts = subst (λ (n : ℕ). AreBelow n d.tree) (sym says.elements) (parts_below t d.tree says.tree);
  sources = (c.plain_paths.ensures t d.tree (s, says.sound) says.tree).sources;
}

pub returns-clause-top : goal.returns-clause-top
returns-clause-top c = proper.proper_top

pub returns-clause-added : goal.returns-clause-added
returns-clause-added c = proper.proper_added

pub returns-clause-whole : goal.returns-clause-whole
returns-clause-whole c = proper.proper_whole
