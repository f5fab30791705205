use Rattle.std.proofs.Common.{arith, subst, sym}
use Rattle.exact_parts.specs.declared.taken.Taken.TheVariants.{Got}
use Rattle.exact_parts.specs.Each.{Each}
use Rattle.exact_parts.specs.Taking.{Takes}
use Rattle.system_checkpoint.specs.Whole.{EventOf}
use Rattle.system_checkpoint.proofs.ListLemmas.{each_bad, each_done, each_more, each_on, event_of_single, event_of_some}
use Rattle.system_checkpoint.proofs.lists.take_events.Goals as goal

pub returns-in-NeedMore : goal.returns-in-NeedMore
returns-in-NeedMore c = each_more (EventOf c.args.held.now) (event_of_single c.args.held.now) (event_of_some c.args.held.now (record { before = c.requires.before; near = c.requires.near })) c.args.components.now c.args.bytes.now c.loop-component.values.items c.loop-component.component-index c.loop-component.done c.component-item.result c.component-item.is c.loop-component-test.true c.loop-component.invariant c.in-NeedMore.ensures

pub returns-in-Bad : goal.returns-in-Bad
returns-in-Bad c = each_bad (EventOf c.args.held.now) (event_of_single c.args.held.now) (event_of_some c.args.held.now (record { before = c.requires.before; near = c.requires.near })) c.args.components.now c.args.bytes.now c.loop-component.values.items c.loop-component.component-index c.loop-component.done c.component-item.result c.component-item.is c.loop-component-test.true c.loop-component.invariant c.in-Bad.at c.in-Bad.ensures

pub loop-component-preserved : goal.loop-component-preserved
loop-component-preserved c = each_on (EventOf c.args.held.now) (event_of_single c.args.held.now) (event_of_some c.args.held.now (record { before = c.requires.before; near = c.requires.near })) c.args.components.now c.args.bytes.now c.loop-component.values.items c.loop-component.component-index c.loop-component.done c.component-item.result c.component-item.is c.loop-component-test.true c.loop-component.invariant c.in-Got.value c.in-Got.length c.push.new.self.items c.in_ok-push-in-Got.ensures.items c.in-Got.ensures

pub returns : goal.returns
returns c =
    subst (λ vs. Takes (Each (EventOf c.args.held.now) c.args.components.now) c.args.bytes.now (Got vs c.loop-component.done)) (sym c.from_vec.ensures)
    (each_done (EventOf c.args.held.now) c.args.components.now c.args.bytes.now c.loop-component.values.items c.loop-component.component-index c.loop-component.done (omega (arith, c.loop-component-test.false)) c.loop-component.invariant)
