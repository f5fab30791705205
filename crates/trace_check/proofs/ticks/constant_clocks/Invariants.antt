use Rattle.std.proofs.Common.{ℕ, ◌<◌, All, Contains}
use Rattle.trace_check.specs.declared.ticks.ConstantClock.{ConstantClock}
use Rattle.trace_check.specs.Steps.{IsWithinLimits}
use Rattle.trace_check.specs.Ticks.{IsConstantClock}
use Rattle.trace_check.proofs.ticks.constant_clocks.Given as goal

abbrev pub invariant-loop-p : goal.invariant-loop-p
invariant-loop-p l = record {
  each : All (λ (c : ConstantClock). IsConstantClock l.system c.port c.interval c.shift) l.clocks.items;
  limits : All IsWithinLimits l.clocks.items;
  all : (q interval shift : ℕ) → q < l.p → IsConstantClock l.system q interval shift → Contains l.clocks.items (record { port = q; interval = interval; shift = shift });
}
