use Rattle.std.proofs.Common.{arith}
use Rattle.clock_fraction.proofs.TickLemmas.{next_tick}
use Rattle.clock_fraction.proofs.ticks.next_tick_after.Goals as goal

pub returns-else-point-first-clause-tick : goal.returns-else-point-first-clause-tick
returns-else-point-first-clause-tick c = next_tick c.args.start c.args.shift c.args.interval _ _ (omega arith) (omega arith)
