use Rattle.std.proofs.Common.{take}
use Rattle.event_iteration.specs.Participants.{Awaits}
use Rattle.event_iteration.proofs.participants.await_clocks.Given as goal

abbrev pub invariant-loop-clock : goal.invariant-loop-clock
invariant-loop-clock l = Awaits (take l.clock-index l.clocks) l.k l.fn.lists l.lists
