use Rattle.std.proofs.Common.{length, drop}
use Rattle.sim_base.specs.Escape.{escaped}
use Rattle.trace_text.proofs.holding.name_length.Given as goal
use Rattle.trace_text.proofs.RoomLemmas.{PartOf}

abbrev pub invariant-loop-byte : goal.invariant-loop-byte
invariant-loop-byte l = PartOf l.length (length (escaped (drop l.byte-index l.byte-items))) (length (escaped l.byte-items))
