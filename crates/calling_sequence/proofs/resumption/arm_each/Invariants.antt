use Rattle.std.proofs.Common.{◌≡◌, take}
use Rattle.calling_sequence.specs.Holding.{armed_by}
use Rattle.calling_sequence.proofs.resumption.arm_each.Given as goal

abbrev pub invariant-loop-clock : goal.invariant-loop-clock
invariant-loop-clock l = record { armed : l.schedule ≡ record l.initial.schedule { clocks = armed_by (take l.clock l.armings) l.initial.schedule.clocks } }
