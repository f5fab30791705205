use Rattle.std.proofs.Common.{arith, sym, ◌∙◌}
use Rattle.trace_reading.proofs.TableLemmas.{next_within}
use Rattle.trace_reading.proofs.rows.place_after.Goals as goal

pub overflow_add-result : goal.overflow_add-result
overflow_add-result c =
    let low = next_within c.args.ports.now c.in-Within.next c.in-Row-Value.port _ (sym c.is_next.ensures ∙ c.if-is_next.true) in
    omega (arith, low)
