use Rattle.std.proofs.Common.{take}
use Rattle.sim_base.proofs.EscapeLemmas.{Written}
use Rattle.sim_base.proofs.escaping.escape.Given as goal

abbrev pub invariant-loop-byte : goal.invariant-loop-byte
invariant-loop-byte l = Written (take l.byte-index l.byte-items) l.byte-index l.len l.initial.out l.out
