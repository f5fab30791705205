use Rattle.std.proofs.Common.{take, ◌++◌}
use Rattle.sim_base.specs.Escape.{escaped}
use Rattle.trace_text.proofs.RestLemmas.{StandsBut}
use Rattle.trace_text.proofs.append.append_parts.Given as goal

abbrev pub invariant-loop-part : goal.invariant-loop-part
invariant-loop-part l = StandsBut (escaped l.parts.0) l.at l.out (take l.fn.at l.fn.out ++ escaped l.name)

abbrev pub decreases-loop-part : goal.decreases-loop-part
decreases-loop-part l = l.parts.1
