use Rattle.std.proofs.Common.{◌≡◌, ℕ, ◌<◌, Some}
use Rattle.std.specs.List.{slice_get}
use Rattle.trace_check.specs.declared.ticks.ConstantClock.{ConstantClock}
use Rattle.system_model.specs.Values.{value}
use Rattle.trace_check.specs.Ticks.{IsOffTick}
use Rattle.trace_check.proofs.ticks.is_off_tick.Given as goal

abbrev pub invariant-loop-clock : goal.invariant-loop-clock
invariant-loop-clock l = (k : ℕ) (c : ConstantClock) → k < l.clock-index → slice_get l.clocks k ≡ Some c →
    IsOffTick l.start c.interval c.shift l.last l.t l.n (value l.values c.port) → ⊥
