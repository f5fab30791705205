use Rattle.std.proofs.Common.{◌≡◌, false, get_or, refl, sym, ◌∙◌, arith, rules}
use Rattle.std.proofs.lemmas.Grind.{common_steps}
use Rattle.fmu_description.proofs.MarkLemmas.{marks_clock, marks_other}
use Rattle.fmu_description.proofs.ignored.mark.Goals as goal

pub returns-in_ok-push : goal.returns-in_ok-push
returns-in_ok-push c =
    let free : get_or c.args.marks.now.items c.args.node false ≡ false = grind (arith, common_steps) in
    marks_clock c.args.tree.now c.args.node c.args.marks.now.items _ c.args.work.now.items c.push.new.self.items c.in-Some.reference (omega arith) free refl (sym c.in-Some.is ∙ c.clock_key.ensures) (search rules)

pub returns-in_default : goal.returns-in_default
returns-in_default c =
    let free : get_or c.args.marks.now.items c.args.node false ≡ false = grind (arith, common_steps) in
    marks_other c.args.tree.now c.args.node c.args.marks.now.items _ c.args.work.now.items (omega arith) free refl (search rules)
