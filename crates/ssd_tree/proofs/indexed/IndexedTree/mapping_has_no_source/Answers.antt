use Rattle.std.proofs.Common.{sym, inr}
use Rattle.std.proofs.lemmas.Bool.{both_ways, iff_false}
use Rattle.ssd_tree.proofs.RuleLemmas.{no_mapping, reads_mapping}
use Rattle.ssd_tree.proofs.indexed.IndexedTree.mapping_has_no_source.Goals as goal

pub returns-else-is_mapping_of : goal.returns-else-is_mapping_of
returns-else-is_mapping_of c = (
  λ e. absurd (both_ways _ c.if-is_mapping_of.false e),
  λ has. absurd (no_mapping c.args.self.now.tree.now c.args.node c.in-Some.binding (sym c.in-Some.ensures.parent) (iff_false c.is_mapping_of.ensures c.if-is_mapping_of.false) has),
)

pub returns-else-no_path : goal.returns-else-no_path
returns-else-no_path c = (
  λ e. (c.in-Some.binding, c.is_mapping_of.ensures.0 c.if-is_mapping_of.true, inr (c.reads_below_system.ensures.0 e)),
  λ has. c.reads_below_system.ensures.1 (reads_mapping c.args.self.now.tree.now c.args.node c.in-Some.binding (sym c.in-Some.ensures.parent) (iff_false c.requires.no_path c.if-no_path.false) has),
)
