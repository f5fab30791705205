use Rattle.std.proofs.Common.{List, subst}
use Rattle.system_model.specs.declared.system.Component.{Component}
use Rattle.exact_parts.specs.declared.taken.Taken.TheVariants.{Got, NeedMore, Bad}
use Rattle.exact_parts.specs.Each.{Each}
use Rattle.exact_parts.specs.Taking.{Takes}
use Rattle.exact_parts.proofs.CallerLemmas.{kept_takes}
use Rattle.system_checkpoint.specs.Whole.{EventOf, with_events}
use Rattle.system_checkpoint.proofs.whole.take_from_events.Goals as goal

pub returns-in-Got : goal.returns-in-Got
returns-in-Got c =
    kept_takes (Each (EventOf c.args.held) c.args.system.now.components) (with_events c.args.held) c.args.bytes.now (Got c.in-Got.value c.in-Got.length)
    (subst (λ (xs : List Component). Takes (Each (EventOf c.args.held) xs) c.args.bytes.now (Got c.in-Got.value c.in-Got.length)) c.as_slice.ensures (subst (λ t. Takes (Each (EventOf c.args.held) c.as_slice.result.now) c.args.bytes.now t) c.in-Got.is c.in_ok-taken.ensures))

pub returns-in-NeedMore : goal.returns-in-NeedMore
returns-in-NeedMore c =
    kept_takes (Each (EventOf c.args.held) c.args.system.now.components) (with_events c.args.held) c.args.bytes.now NeedMore
    (subst (λ (xs : List Component). Takes (Each (EventOf c.args.held) xs) c.args.bytes.now NeedMore) c.as_slice.ensures (subst (λ t. Takes (Each (EventOf c.args.held) c.as_slice.result.now) c.args.bytes.now t) c.in-NeedMore.is c.in_ok-taken.ensures))

pub returns-in-Bad : goal.returns-in-Bad
returns-in-Bad c =
    kept_takes (Each (EventOf c.args.held) c.args.system.now.components) (with_events c.args.held) c.args.bytes.now (Bad c.in-Bad.at)
    (subst (λ (xs : List Component). Takes (Each (EventOf c.args.held) xs) c.args.bytes.now (Bad c.in-Bad.at)) c.as_slice.ensures (subst (λ t. Takes (Each (EventOf c.args.held) c.as_slice.result.now) c.args.bytes.now t) c.in-Bad.is c.in_ok-taken.ensures))
