use Rattle.std.proofs.Common.{sym, ◌∙◌}
use Rattle.fmu_description.specs.Clocks.{ByCounters}
use Rattle.fmu_description.proofs.IntervalLemmas.{decimal_interval, decimal_interval_only}
use Rattle.fmu_description.proofs.intervals.interval.Goals as goal

pub returns-in_ok-resolution-clause-value : goal.returns-in_ok-resolution-clause-value
returns-in_ok-resolution-clause-value c =
    ByCounters _ (sym c.is_by_counters.ensures ∙ c.if-is_by_counters.true) (sym c.in_ok-counter.ensures) (sym c.in_ok-resolution.ensures)

pub returns-in_ok-attribute-clause-value : goal.returns-in_ok-attribute-clause-value
returns-in_ok-attribute-clause-value c =
    decimal_interval c.args.tree.now c.args.node c.in_ok-attribute.field-0.now _ (sym c.is_by_counters.ensures ∙ c.if-is_by_counters.false) (sym c.in_ok-attribute.ensures) c.from_decimal.ensures.value

pub returns-in_ok-attribute-clause-exact : goal.returns-in_ok-attribute-clause-exact
returns-in_ok-attribute-clause-exact c =
    decimal_interval_only c.args.tree.now c.args.node c.in_ok-attribute.field-0.now _ (sym c.is_by_counters.ensures ∙ c.if-is_by_counters.false) (sym c.in_ok-attribute.ensures) c.from_decimal.ensures.exact
