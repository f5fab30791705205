use Rattle.std.proofs.Common.{arith, length, ◌∙◌, ap, sym, ℕ, ℤ, List, Option, Some, None, replicate}
use Rattle.trace_reading.specs.declared.trace.TraceLine.{TraceLine}
use Rattle.trace_reading.specs.Form.{told_values_from}
use Rattle.trace_check.proofs.ValueLemmas.{put_all, put_end, put_lines, put_size}
use Rattle.trace_check.proofs.reading.put_values.Goals as goal

pub returns-clause-put : goal.returns-clause-put
returns-clause-put c = λ all size same.
    let old : List (Option ℤ) = c.args.values.now.items in
    put_end Some c.args.told.now c.loop-line.line-index c.loop-line.values.items old c.loop-line.invariant (omega arith)
    ∙ (ap (λ (xs : List TraceLine). put_lines Some xs old) same
    ∙ (ap (λ (vs : List (Option ℤ)). put_lines Some (told_values_from 0 all) vs) (c.requires.none ∙ ap (λ (n : ℕ). replicate n None) (sym size)) ∙ put_all all))

pub returns-clause-size : goal.returns-clause-size
returns-clause-size c =
    let old : List (Option ℤ) = c.args.values.now.items in
    ap length (put_end Some c.args.told.now c.loop-line.line-index c.loop-line.values.items old c.loop-line.invariant (omega arith)) ∙ put_size Some c.args.told.now old
