use Rattle.std.proofs.Common.{take, drop, ◌++◌}
use Rattle.sim_base.specs.Escape.{escaped}
use Rattle.trace_text.proofs.RestLemmas.{StandsBut}
use Rattle.trace_text.proofs.append.append_name.Given as goal

abbrev pub invariant-loop-byte : goal.invariant-loop-byte
invariant-loop-byte l =
    StandsBut (escaped (drop l.byte-index l.byte-items)) l.at l.out (take l.fn.at l.fn.out ++ escaped l.byte-items)
