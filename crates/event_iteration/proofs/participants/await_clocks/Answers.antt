use Rattle.std.proofs.Common.{arith, List, ℕ, take, ◌+◌, subst, sym}
use Rattle.std.proofs.lemmas.List.{take_all}
use Rattle.sim_base.specs.declared.numbers.PortId.{PortId}
use Rattle.event_iteration.specs.Participants.{Awaits}
use Rattle.event_iteration.proofs.WaitingPlaces.{await_next, await_none}
use Rattle.event_iteration.proofs.participants.await_clocks.Goals as goal

pub loop-clock-init : goal.loop-clock-init
loop-clock-init c = await_none c.args.k c.args.lists.now

pub loop-clock-preserved : goal.loop-clock-preserved
loop-clock-preserved c =
    let d : PortId = record { 0 = 0 } in
    await_next c.args.clocks.now c.loop-clock.clock-index c.args.k d c.args.lists.now c.loop-clock.lists c.push.new.self (omega arith) (omega arith) c.loop-clock.invariant c.in_ok-push.ensures.pushed
