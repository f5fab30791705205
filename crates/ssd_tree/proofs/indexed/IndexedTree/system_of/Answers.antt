use Rattle.std.proofs.Common.{ℕ, Option, Some, sym, subst, ◌∙◌}
use Rattle.ssd_tree.specs.Parts.{IsPlaceOf}
use Rattle.ssd_tree.proofs.PartLemmas.{system_inside}
use Rattle.ssd_tree.proofs.indexed.IndexedTree.system_of.Goals as goal

pub system_place-requires-clause-is : goal.system_place-requires-clause-is
system_place-requires-clause-is c =
    system_inside c.args.self.now.tree.now c.args.node c.unwrap-system.result c.requires.is (sym c.holder.ensures.holder ∙ c.unwrap-system.ensures)

pub returns : goal.returns
returns c =
    subst (λ (h : Option ℕ). IsPlaceOf c.args.self.now.lists.systems.items (Some c.system_place.result) h) (sym c.unwrap-system.ensures ∙ c.holder.ensures.holder) c.system_place.ensures
