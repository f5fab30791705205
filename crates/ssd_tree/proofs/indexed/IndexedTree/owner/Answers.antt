use Rattle.std.proofs.Common.{sym, ◌∙◌}
use Rattle.std.proofs.lemmas.Bool.{iff_false}
use Rattle.ssd_tree.proofs.PartLemmas.{component_else}
use Rattle.ssd_tree.proofs.indexed.IndexedTree.owner.Goals as goal

pub component_place-requires-clause-is : goal.component_place-requires-clause-is
component_place-requires-clause-is c =
    component_else c.args.self.now.tree.now c.args.node c.unwrap-part.result c.args.list.now c.requires.part (sym c.holder.ensures.holder ∙ c.unwrap-part.ensures)
    (iff_false c.is_system.ensures c.if-is_system.false)

pub returns-then-is_system : goal.returns-then-is_system
returns-then-is_system c = λ part h. c.system_place.ensures ∙ sym c.unwrap-part.ensures ∙ c.holder.ensures.holder ∙ h

pub returns-else-is_system : goal.returns-else-is_system
returns-else-is_system c = λ part h. c.component_place.ensures ∙ sym c.unwrap-part.ensures ∙ c.holder.ensures.holder ∙ h
