use Rattle.clock_fraction.proofs.TickLemmas.{IsTick-from_Ticks, Ticks-from_IsTick}
use Rattle.clock_fraction.proofs.ticks.ticks_at.Goals as goal

pub returns-clause-seconds : goal.returns-clause-seconds
returns-clause-seconds c = λ per_second after every is_shift is_interval. (
  λ yes. Ticks-from_IsTick per_second c.args.start c.args.t c.args.shift c.args.interval after every is_shift is_interval (c.is_tick.ensures.0 yes),
  λ ticks. c.is_tick.ensures.1 (IsTick-from_Ticks per_second c.args.start c.args.t c.args.shift c.args.interval after every is_shift is_interval ticks),
)
