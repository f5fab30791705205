use Rattle.std.proofs.Common.{arith, length, ap}
use Rattle.sim_base.specs.Escape.{escaped}
use Rattle.trace_text.proofs.RoomLemmas.{length-escaped}
use Rattle.trace_text.proofs.holding.name_length.Goals as goal

pub overflow_add-length : goal.overflow_add-length
overflow_add-length c =
    let part = c.loop-byte.invariant.whole_is in
    let most = length-escaped c.as_bytes-byte-items.result.now in
    let short = c.as_slice.ensures.short in
    omega (arith, part, most, short)

pub returns-clause-short : goal.returns-clause-short
returns-clause-short c =
    let part = c.loop-byte.invariant.whole_is in
    let most = length-escaped c.args.name.now in
    let same = ap (λ xs. length (escaped xs)) c.as_bytes-byte-items.ensures.value in
    omega (arith, part, most, same)
