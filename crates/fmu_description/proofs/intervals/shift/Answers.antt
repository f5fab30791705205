use Rattle.std.proofs.Common.{sym, ◌∙◌, refl}
use Rattle.fmu_description.specs.Clocks.{Counters, NoCounter, NoDecimal}
use Rattle.fmu_description.proofs.IntervalLemmas.{counted, decimal_shift, decimal_shift_only}
use Rattle.fmu_description.proofs.intervals.shift.Goals as goal

pub returns-in_ok-counter-in-Some-clause-value : goal.returns-in_ok-counter-in-Some-clause-value
returns-in_ok-counter-in-Some-clause-value c =
    Counters _ (sym c.is_by_counters.ensures ∙ c.if-is_by_counters.true)
    (counted c.args.tree.now c.args.node _ c.in-Some.text.now _ (sym c.in-Some.ensures) (sym c.in_ok-counter-in-Some.ensures)) (sym c.in_ok-resolution.ensures)

pub returns-in-None-clause-value : goal.returns-in-None-clause-value
returns-in-None-clause-value c =
    NoCounter _ (sym c.is_by_counters.ensures ∙ c.if-is_by_counters.true) (sym c.in-None.ensures) refl (sym c.in_ok-resolution.ensures)

pub returns-in-Some-attribute-clause-value : goal.returns-in-Some-attribute-clause-value
returns-in-Some-attribute-clause-value c =
    decimal_shift c.args.tree.now c.args.node c.in-Some-attribute.text.now _ (sym c.is_by_counters.ensures ∙ c.if-is_by_counters.false) (sym c.in-Some-attribute.ensures) c.from_decimal.ensures.value

pub returns-in-Some-attribute-clause-exact : goal.returns-in-Some-attribute-clause-exact
returns-in-Some-attribute-clause-exact c =
    decimal_shift_only c.args.tree.now c.args.node c.in-Some-attribute.text.now _ (sym c.is_by_counters.ensures ∙ c.if-is_by_counters.false) (sym c.in-Some-attribute.ensures) c.from_decimal.ensures.exact

pub returns-in-None-attribute-clause-value : goal.returns-in-None-attribute-clause-value
returns-in-None-attribute-clause-value c =
    NoDecimal _ (sym c.is_by_counters.ensures ∙ c.if-is_by_counters.false) (sym c.in-None-attribute.ensures) refl refl
