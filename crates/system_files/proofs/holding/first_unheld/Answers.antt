use Rattle.std.proofs.Common.{◌≡◌, length, ap, refl, sym, ◌∙◌, arith, subst}
use Rattle.std.specs.Prelude.{Some, None, slice_get}
use Rattle.std.proofs.lemmas.Bool.{iff_false}
use Rattle.std.proofs.lemmas.Option.{slice_get_read}
use Rattle.doc_tables.specs.Violations.{FindsLeast}
use Rattle.flatten.proofs.LeastLemmas.{least_here, least_not, least_all}
use Rattle.trace_text.specs.Holding.{KeepsFromHolding}
use Rattle.system_files.specs.Holding.{IsUnheld}
use Rattle.system_files.proofs.HoldingLemmas.{held_back, holdable, kept_back}
use Rattle.system_files.proofs.holding.first_unheld.Goals as goal
use Rattle.system_files.proofs.holding.first_unheld.Goals.{then-keeps_from_holding, else-keeps_from_holding}

pub loop-number-preserved : goal.loop-number-preserved
loop-number-preserved c =
    let parts = c.args.outline.now.systems.components in
    let system = c.args.system.now in
    let i = c.loop-number.number in
    let keeps = KeepsFromHolding system.components system.ports c.args.plan in
    let lent = c.as_slice-parts.ensures in
    let component = c.index-components-number.result in
    let at : slice_get system.components i ≡ Some component =
    subst (λ cs. slice_get cs i ≡ Some component) c.as_slice-components.ensures
    (slice_get_read c.as_slice-components.result.now (length c.as_slice-components.result.now) i component refl
    (let a = ap length c.as_slice-components.ensures in let b = ap length lent in let n = c.requires.same in let l = c.loop-number-test.true in omega (arith, a, b, n, l)) c.index-components-number.is) in
    elim c.if-keeps_from_holding.branch [
      | then-keeps_from_holding w ↦
          least_here parts (λ k. k.node) (λ j k. keeps j) c.as_slice-parts.result.now i w.index-parts-number.result c.loop-number.first c.if-keeps_from_holding.first lent
          c.loop-number-test.true w.index-parts-number.is
          (λ y e. held_back system.components system.ports c.args.plan c.passing_component-passing.result c.passing_component-passing.ensures.found c.passing_component-passing.ensures.only i component at (c.keeps_from_holding.ensures.0 w.if-keeps_from_holding.true))
          (w.first-is ∙ w.earlier-first.ensures) c.loop-number.invariant
      | else-keeps_from_holding w ↦
          least_not parts (λ k. k.node) (λ j k. keeps j) i c.loop-number.first c.if-keeps_from_holding.first
          (λ y e b. iff_false c.keeps_from_holding.ensures w.if-keeps_from_holding.false
          (kept_back system.components system.ports c.args.plan c.passing_component-passing.result c.passing_component-passing.ensures.found c.passing_component-passing.ensures.only i component at b)) w.first-is c.loop-number.invariant
    ]

pub returns-clause-least : goal.returns-clause-least
returns-clause-least c =
    let parts = c.args.outline.now.systems.components in
    let system = c.args.system.now in
    let keeps = KeepsFromHolding system.components system.ports c.args.plan in
    least_all parts (λ k. k.node) (λ j k. keeps j) (IsUnheld c.args.outline.now system c.args.plan) c.loop-number.number c.loop-number.first
    (let l = ap length c.as_slice-parts.ensures in omega (arith, l)) (λ node h. (h.0, (h.1.0, (h.1.1, h.1.2), h.1.3))) (λ i node h. (i, (h.0, h.1.0, h.1.1, h.2))) c.loop-number.invariant

pub returns-clause-none : goal.returns-clause-none
returns-clause-none c = λ none.
    let parts = c.args.outline.now.systems.components in
    let system = c.args.system.now in
    let keeps = KeepsFromHolding system.components system.ports c.args.plan in
    let least = least_all parts (λ k. k.node) (λ j k. keeps j) (IsUnheld c.args.outline.now system c.args.plan) c.loop-number.number c.loop-number.first
    (let l = ap length c.as_slice-parts.ensures in omega (arith, l)) (λ node h. (h.0, (h.1.0, (h.1.1, h.1.2), h.1.3))) (λ i node h. (i, (h.0, h.1.0, h.1.1, h.2))) c.loop-number.invariant in
    holdable c.args.outline.now system c.args.plan c.requires.sound c.requires.same (subst (FindsLeast (IsUnheld c.args.outline.now system c.args.plan)) none least)
    c.passing_component-passing.result c.passing_component-passing.ensures.found c.passing_component-passing.ensures.none
