use Rattle.std.proofs.Common.{◌-◌, drop, length, sym, subst, take}
use Rattle.exact_parts.specs.Taking.{Takes}
use Rattle.exact_parts.proofs.CallerLemmas.{led_bad, led_more}
use Rattle.system_checkpoint.specs.First.{IsFirst}
use Rattle.system_checkpoint.specs.Whole.{HeaderOf}
use Rattle.system_checkpoint.proofs.PartLemmas.{taken_after, then_takes}
use Rattle.system_checkpoint.proofs.ListLemmas.{IsBefore}
use Rattle.system_checkpoint.proofs.FirstLemmas.{first_before, first_single}
use Rattle.system_checkpoint.proofs.WholeLemmas.{after_first, first_leads}
use Rattle.system_checkpoint.proofs.whole.take_whole.Goals as goal

pub take_header-requires-clause-before : goal.take_header-requires-clause-before
take_header-requires-clause-before c =
    (subst (λ held. IsBefore held.point held.plan.stop) (sym c.begun-held.ensures) (first_before c.in-Got.value _ c.in-Got.ensures.spelled)).before

pub take_header-requires-clause-near : goal.take_header-requires-clause-near
take_header-requires-clause-near c =
    (subst (λ held. IsBefore held.point held.plan.stop) (sym c.begun-held.ensures) (first_before c.in-Got.value _ c.in-Got.ensures.spelled)).near

pub returns-in_ok-rest-in-Got : goal.returns-in_ok-rest-in-Got
returns-in_ok-rest-in-Got c =
    then_takes IsFirst (after_first c.args.system.now c.args.header.now) first_single c.args.bytes.now c.in-Got.value c.in-Got.length c.in_ok-rest-in-Got.rest c.after-whole.result (rw c.as_slice.ensures at c.in-Got.ensures)
    (subst (λ held. Takes (HeaderOf c.args.system.now c.args.header.now held) (take (length c.args.bytes.now - c.in-Got.length) (drop c.in-Got.length c.args.bytes.now)) c.in_ok-rest-in-Got.rest) c.begun-held.ensures
    (taken_after (HeaderOf c.args.system.now c.args.header.now c.begun-held.result) c.args.bytes.now c.in_ok-after-in-Got.after c.in-Got.length c.in_ok-rest-in-Got.rest c.in_ok-after-in-Got.ensures.rest c.in_ok-rest-in-Got.ensures)) c.after-whole.ensures

pub returns-in-NeedMore : goal.returns-in-NeedMore
returns-in-NeedMore c = led_more IsFirst (after_first c.args.system.now c.args.header.now) (first_leads c.args.system.now c.args.header.now c.requires) c.args.bytes.now (rw c.as_slice.ensures at c.in-NeedMore.ensures)

pub returns-in-Bad : goal.returns-in-Bad
returns-in-Bad c = led_bad IsFirst (after_first c.args.system.now c.args.header.now) first_single (first_leads c.args.system.now c.args.header.now c.requires) c.args.bytes.now c.in-Bad.at (rw c.as_slice.ensures at c.in-Bad.ensures)
