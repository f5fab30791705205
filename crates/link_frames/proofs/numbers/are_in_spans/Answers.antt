use Rattle.std.proofs.Common.{subst}
use Rattle.std.specs.Prelude.{slice_index}
use Rattle.exact_parts.specs.declared.field.Spans.{Spans}
use Rattle.link_frames.specs.declared.layout.Row.{Row}
use Rattle.exact_parts.specs.Field.{InSpans}
use Rattle.link_frames.proofs.numbers.are_in_spans.Goals as goal

pub returns : goal.returns
returns c = λ good.
    let ns = c.args.numbers.now in
    let row = c.row_of-row.ensures in
    record {
      kind = subst (λ (s : Spans). InSpans s (slice_index ns 0)) c.kinds_of.ensures (c.is_in.ensures.yes c.if-not-is_in.false);
      detail = subst (λ (r : Row). InSpans r.detail (slice_index ns 1)) row (c.is_in-2.ensures.yes c.if-not-is_in-2.false);
      flags = subst (λ (r : Row). InSpans r.flags (slice_index ns 2)) row (c.is_in-3.ensures.yes c.if-not-is_in-3.false);
      zero = subst (λ (s : Spans). InSpans s (slice_index ns 3)) c.zero_only.ensures (c.is_in-4.ensures.yes c.if-not-is_in-4.false);
      reference = subst (λ (r : Row). InSpans r.reference (slice_index ns 4)) row (c.is_in-5.ensures.yes c.if-not-is_in-5.false);
      first = subst (λ (r : Row). InSpans r.first (slice_index ns 5)) row (c.is_in-6.ensures.yes c.if-not-is_in-6.false);
      last = subst (λ (r : Row). InSpans r.last (slice_index ns 6)) row (c.is_in-7.ensures.yes good);
    }
