use Rattle.std.proofs.Common.{sym}
use Rattle.system_model.proofs.CallerLemmas.{true_false}
use Rattle.trace_check.proofs.TickLemmas.{none_off, none_off_more}
use Rattle.trace_check.proofs.ticks.is_off_tick.Goals as goal

pub loop-clock-preserved : goal.loop-clock-preserved
loop-clock-preserved c =
    none_off_more c.args.clocks.now c.args.start c.args.last c.args.t c.args.n c.args.values.now c.loop-clock.clock-index c.value.result c.is_clock_off.result c.loop-clock-test.true
    c.loop-clock.invariant c.value.ensures c.is_clock_off.ensures c.if-is_clock_off.false

pub returns : goal.returns
returns c = (
  (λ e. absurd (true_false (sym e))),
  (λ any. absurd (none_off c.args.clocks.now c.args.start c.args.last c.args.t c.args.n c.args.values.now c.loop-clock.clock-index c.loop-clock-test.false c.loop-clock.invariant any)),
)
