use Rattle.std.proofs.Common.{sym, subst}
use Rattle.std.specs.Prelude.{Bool}
use Rattle.exact_parts.specs.declared.field.Spans.{Spans}
use Rattle.exact_parts.specs.declared.taken.Taken.TheVariants.{Got, NeedMore, Bad}
use Rattle.exact_parts.specs.Field.{IsSane}
use Rattle.exact_parts.specs.Taking.{Takes}
use Rattle.exact_parts.proofs.CallerLemmas.{kept_takes}
use Rattle.system_checkpoint.specs.declared.snapshot.Arming.{Arming}
use Rattle.system_checkpoint.specs.declared.snapshot.Arming.TheVariants.{NoClock}
use Rattle.system_checkpoint.specs.Parts.{Optional, arming_of, between}
use Rattle.system_checkpoint.specs.Whole.{ArmingIf}
use Rattle.system_checkpoint.proofs.PartLemmas.{nothing_got}
use Rattle.system_checkpoint.proofs.ListLemmas.{span_sane}
use Rattle.system_checkpoint.proofs.lists.take_arming_if.Goals as goal

pub take_optional-requires : goal.take_optional-requires
take_optional-requires c = subst (λ (spans : Spans). IsSane 8 spans) (sym c.between.ensures) (span_sane c.args.low c.args.high c.requires.some c.requires.near)

pub returns-then-not-may : goal.returns-then-not-may
returns-then-not-may c = subst (λ (b : Bool). Takes (ArmingIf c.args.low c.args.high b) c.args.bytes.now (Got NoClock 0)) (sym c.if-not-may.true) (nothing_got NoClock c.args.bytes.now)

pub returns-in-Got : goal.returns-in-Got
returns-in-Got c =
    let o = subst (λ (spans : Spans). Takes (Optional 1 spans) c.args.bytes.now (Got c.in-Got.value c.in-Got.length)) c.between.ensures c.in-Got.ensures in
    let made = kept_takes (Optional 1 (between c.args.low c.args.high)) arming_of c.args.bytes.now (Got c.in-Got.value c.in-Got.length) o in
    subst (λ (arming : Arming). Takes (ArmingIf c.args.low c.args.high c.args.may) c.args.bytes.now (Got arming c.in-Got.length)) (sym c.arming_of.ensures)
    (subst (λ (b : Bool). Takes (ArmingIf c.args.low c.args.high b) c.args.bytes.now (Got (arming_of c.in-Got.value) c.in-Got.length)) (sym c.if-not-may.false) made)

pub returns-in-NeedMore : goal.returns-in-NeedMore
returns-in-NeedMore c =
    let o = subst (λ (spans : Spans). Takes (Optional 1 spans) c.args.bytes.now NeedMore) c.between.ensures c.in-NeedMore.ensures in
    subst (λ (b : Bool). Takes (ArmingIf c.args.low c.args.high b) c.args.bytes.now NeedMore) (sym c.if-not-may.false) (kept_takes (Optional 1 (between c.args.low c.args.high)) arming_of c.args.bytes.now NeedMore o)

pub returns-in-Bad : goal.returns-in-Bad
returns-in-Bad c =
    let o = subst (λ (spans : Spans). Takes (Optional 1 spans) c.args.bytes.now (Bad c.in-Bad.at)) c.between.ensures c.in-Bad.ensures in
    subst (λ (b : Bool). Takes (ArmingIf c.args.low c.args.high b) c.args.bytes.now (Bad c.in-Bad.at)) (sym c.if-not-may.false) (kept_takes (Optional 1 (between c.args.low c.args.high)) arming_of c.args.bytes.now (Bad c.in-Bad.at) o)
