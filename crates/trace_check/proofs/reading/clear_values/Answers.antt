use Rattle.std.proofs.Common.{arith, ◌∙◌, ap, ℤ, List, Option}
use Rattle.trace_reading.specs.declared.trace.TraceLine.{TraceLine}
use Rattle.trace_check.proofs.ValueLemmas.{clear_all, no_value, put_end, put_lines}
use Rattle.trace_check.proofs.reading.clear_values.Goals as goal

pub returns : goal.returns
returns c =
    let old : List (Option ℤ) = c.args.values.now.items in
    record {
      none = put_end no_value c.args.told.now c.loop-line.line-index c.loop-line.values.items old c.loop-line.invariant (omega arith)
          ∙ (ap (λ (xs : List TraceLine). put_lines no_value xs old) c.requires.told ∙ clear_all old);
    }
