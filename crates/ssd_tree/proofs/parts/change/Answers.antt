use Rattle.std.proofs.Common.{sym, ◌∙◌, subst, ℕ, Option, IfOk}
use Rattle.ssd_tree.specs.Parts.{IsChangeBy}
use Rattle.ssd_tree.proofs.MisreadLemmas.{first_reads, read_change}
use Rattle.ssd_tree.proofs.parts.change.Goals as goal

pub returns-in-Some : goal.returns-in-Some
returns-in-Some c =
    let first = sym c.first_transformation.ensures ∙ c.in-Some.is in
    subst (λ (o : Option ℕ). IfOk c.read_transformation.result (IsChangeBy c.args.tree.now o)) (sym first)
    (read_change c.args.tree.now c.in-Some.transformation c.read_transformation.result (first_reads c.args.tree.now c.args.node c.in-Some.transformation c.requires.sound c.requires.is first) c.read_transformation.ensures)
