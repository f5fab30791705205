use Rattle.std.proofs.Common.{ℕ, subst}
use Rattle.exact_parts.specs.declared.field.Spans.{Spans}
use Rattle.exact_parts.specs.declared.taken.Taken.TheVariants.{Got, NeedMore, Bad}
use Rattle.exact_parts.specs.Field.{Field, IsSane}
use Rattle.exact_parts.specs.Taking.{Takes}
use Rattle.exact_parts.proofs.CallerLemmas.{kept_takes}
use Rattle.std.proofs.Common.{sym}
use Rattle.system_checkpoint.specs.Parts.{Low, joined, low_span}
use Rattle.system_checkpoint.proofs.PartLemmas.{low_sane}
use Rattle.system_checkpoint.proofs.parts.take_low.Goals as goal

pub take_number-requires-clause-sane : goal.take_number-requires-clause-sane
take_number-requires-clause-sane c = subst (λ spans. IsSane 8 spans) (sym c.low_span.ensures) (low_sane c.args.least c.args.high c.requires)

pub returns-in-Got : goal.returns-in-Got
returns-in-Got c =
    let low = subst (λ (spans : Spans). Takes (Field 8 spans) c.args.bytes.now (Got c.in-Got.value c.in-Got.length)) c.low_span.ensures c.in-Got.ensures in
    subst (λ (v : ℕ). Takes (Low c.args.least c.args.high) c.args.bytes.now (Got v c.in-Got.length)) (sym c.joined.ensures)
    (kept_takes (Field 8 (low_span c.args.least c.args.high)) (joined c.args.high) c.args.bytes.now (Got c.in-Got.value c.in-Got.length) low)

pub returns-in-NeedMore : goal.returns-in-NeedMore
returns-in-NeedMore c =
    kept_takes (Field 8 (low_span c.args.least c.args.high)) (joined c.args.high) c.args.bytes.now NeedMore
    (subst (λ (spans : Spans). Takes (Field 8 spans) c.args.bytes.now NeedMore) c.low_span.ensures c.in-NeedMore.ensures)

pub returns-in-Bad : goal.returns-in-Bad
returns-in-Bad c =
    kept_takes (Field 8 (low_span c.args.least c.args.high)) (joined c.args.high) c.args.bytes.now (Bad c.in-Bad.at)
    (subst (λ (spans : Spans). Takes (Field 8 spans) c.args.bytes.now (Bad c.in-Bad.at)) c.low_span.ensures c.in-Bad.ensures)
