use Rattle.std.proofs.Common.{arith, subst, sym}
use Rattle.exact_parts.specs.declared.taken.Taken.TheVariants.{Got}
use Rattle.exact_parts.specs.Each.{Each}
use Rattle.exact_parts.specs.Taking.{Takes}
use Rattle.system_checkpoint.specs.Whole.{ArmingOf}
use Rattle.system_checkpoint.proofs.ListLemmas.{each_bad, each_done, each_more, each_on, arming_of_single, arming_of_some}
use Rattle.system_checkpoint.proofs.lists.take_armings.Goals as goal

pub returns-in-NeedMore : goal.returns-in-NeedMore
returns-in-NeedMore c = each_more (ArmingOf c.args.held.now) (arming_of_single c.args.held.now) (arming_of_some c.args.held.now (record { before = c.requires.before; near = c.requires.near })) c.args.ports.now c.args.bytes.now c.loop-port.values.items c.loop-port.port-index c.loop-port.done c.port-item.result c.port-item.is c.loop-port-test.true c.loop-port.invariant c.in-NeedMore.ensures

pub returns-in-Bad : goal.returns-in-Bad
returns-in-Bad c = each_bad (ArmingOf c.args.held.now) (arming_of_single c.args.held.now) (arming_of_some c.args.held.now (record { before = c.requires.before; near = c.requires.near })) c.args.ports.now c.args.bytes.now c.loop-port.values.items c.loop-port.port-index c.loop-port.done c.port-item.result c.port-item.is c.loop-port-test.true c.loop-port.invariant c.in-Bad.at c.in-Bad.ensures

pub loop-port-preserved : goal.loop-port-preserved
loop-port-preserved c = each_on (ArmingOf c.args.held.now) (arming_of_single c.args.held.now) (arming_of_some c.args.held.now (record { before = c.requires.before; near = c.requires.near })) c.args.ports.now c.args.bytes.now c.loop-port.values.items c.loop-port.port-index c.loop-port.done c.port-item.result c.port-item.is c.loop-port-test.true c.loop-port.invariant c.in-Got.value c.in-Got.length c.push.new.self.items c.in_ok-push-in-Got.ensures.items c.in-Got.ensures

pub returns : goal.returns
returns c =
    subst (λ vs. Takes (Each (ArmingOf c.args.held.now) c.args.ports.now) c.args.bytes.now (Got vs c.loop-port.done)) (sym c.from_vec.ensures)
    (each_done (ArmingOf c.args.held.now) c.args.ports.now c.args.bytes.now c.loop-port.values.items c.loop-port.port-index c.loop-port.done (omega (arith, c.loop-port-test.false)) c.loop-port.invariant)
