use Rattle.std.proofs.Common.{◌≡◌, None, arith, inr, sym, subst, ◌∙◌}
use Rattle.std.proofs.lemmas.Grind.{common_steps}
use Rattle.std.proofs.lemmas.Result.{IfOk-weaker}
use Rattle.fmu_description.specs.Description.{IsExact}
use Rattle.doc_tables.specs.Tables.{IsHeld, Finds}
use Rattle.fmu_description.specs.Elements.{initial_key}
use Rattle.fmu_description.specs.Places.{found}
use Rattle.fmu_description.proofs.dependencies.depends_initially_on.Goals as goal

pub returns-in-None-2 : goal.returns-in-None-2
returns-in-None-2 c =
    let t = c.args.tree.now in
    let r = c.args.reference in
    let is : found c.args.unknowns.now r ≡ None = sym c.find.ensures ∙ c.in-None.is in
    let unheld : IsHeld (initial_key t) r → ⊥ = subst (Finds (initial_key t) r) is (c.requires.unknowns r) in
    let inexact : IsExact t r → ⊥ = λ exact. grind (arith, common_steps, c.is_exact.ensures.1 exact, c.if-is_exact.false) in
    IfOk-weaker c.depends_on.result _ _ (λ on h. inr (unheld, inr (inexact, h))) c.depends_on.ensures
