use Rattle.std.proofs.Common.{sym, subst}
use Rattle.std.specs.Prelude.{Bool, Some, None}
use Rattle.exact_parts.specs.declared.taken.Taken.TheVariants.{Got, NeedMore, Bad}
use Rattle.exact_parts.specs.Taking.{Takes}
use Rattle.exact_parts.proofs.CallerLemmas.{kept_takes}
use Rattle.system_checkpoint.specs.Parts.{Times}
use Rattle.system_checkpoint.specs.Whole.{TimesIf}
use Rattle.system_checkpoint.proofs.PartLemmas.{nothing_got}
use Rattle.system_checkpoint.proofs.lists.take_times_if.Goals as goal

pub returns-then-not-asked : goal.returns-then-not-asked
returns-then-not-asked c = subst (λ (b : Bool). Takes (TimesIf b) c.args.bytes.now (Got None 0)) (sym c.if-not-asked.true) (nothing_got None c.args.bytes.now)

pub returns-in-Got : goal.returns-in-Got
returns-in-Got c =
    subst (λ (b : Bool). Takes (TimesIf b) c.args.bytes.now (Got (Some c.in-Got.value) c.in-Got.length)) (sym c.if-not-asked.false)
    (kept_takes Times Some c.args.bytes.now (Got c.in-Got.value c.in-Got.length) c.in-Got.ensures)

pub returns-in-NeedMore : goal.returns-in-NeedMore
returns-in-NeedMore c =
    subst (λ (b : Bool). Takes (TimesIf b) c.args.bytes.now NeedMore) (sym c.if-not-asked.false) (kept_takes Times Some c.args.bytes.now NeedMore c.in-NeedMore.ensures)

pub returns-in-Bad : goal.returns-in-Bad
returns-in-Bad c =
    subst (λ (b : Bool). Takes (TimesIf b) c.args.bytes.now (Bad c.in-Bad.at)) (sym c.if-not-asked.false) (kept_takes Times Some c.args.bytes.now (Bad c.in-Bad.at) c.in-Bad.ensures)
