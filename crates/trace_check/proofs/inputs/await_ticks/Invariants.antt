use Rattle.std.proofs.Common.{take}
use Rattle.trace_check.specs.Inputs.{WaitToo}
use Rattle.trace_check.proofs.inputs.await_ticks.Given as goal

abbrev pub invariant-loop-clock : goal.invariant-loop-clock
invariant-loop-clock l = WaitToo (take l.clock-index l.clocks) l.input l.fn.lists l.lists
