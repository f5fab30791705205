use Rattle.std.proofs.Common.{ℕ, Option, Some, inl, sym, subst}
use Rattle.ssd_tree.specs.Parts.{IsPlaceOf}
use Rattle.ssd_tree.proofs.PartLemmas.{part_inside}
use Rattle.ssd_tree.proofs.indexed.IndexedTree.outer_system.Goals as goal

pub system_place-requires-clause-is : goal.system_place-requires-clause-is
system_place-requires-clause-is c =
    part_inside c.args.self.now.tree.now c.args.node c.in-Some.system c.requires.sound (inl c.requires.is) (sym c.in-Some.ensures.holder)

pub returns-in-Some : goal.returns-in-Some
returns-in-Some c =
    subst (λ (h : Option ℕ). IsPlaceOf c.args.self.now.lists.systems.items (Some c.system_place.result) h) c.in-Some.ensures.holder c.system_place.ensures
