use Rattle.std.proofs.Common.{◌∙◌, refl, arith}
use Rattle.sim_base.proofs.EscapeLemmas.{written_more}
use Rattle.sim_base.proofs.escaping.escape.Goals as goal

pub loop-byte-preserved : goal.loop-byte-preserved
loop-byte-preserved c =
    let text = c.as_slice-text.ensures in
    rw c.copy_from_slice.ensures.after
    (written_more c.as_bytes-byte-items.result.now c.args.out.now c.loop-byte.out c.as_slice-text.result.now c.loop-byte.byte-index c.loop-byte.len _ c.loop-byte.invariant (omega arith) refl (text.bytes ∙ c.escaped_byte-escaped.ensures) text.short c.loop-byte.auto.out (omega arith) _ (omega arith))
