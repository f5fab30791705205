use Rattle.std.proofs.Common.{◌≡◌, ◌<◌, ◌+◌, List, ap, arith, get_or, length, subst, sym, ◌∙◌}
use Rattle.std.specs.Prelude.{All}
use Rattle.sim_base.specs.declared.numbers.PortId.{PortId}
use Rattle.system_model.specs.declared.system.Port.{Port}
use Rattle.event_iteration.specs.Participants.{Awaits}
use Rattle.event_iteration.proofs.Rounds.{number_at}
use Rattle.event_iteration.proofs.Skipping.{port_in_order}
use Rattle.event_iteration.proofs.Taking.{port_at}
use Rattle.event_iteration.proofs.WaitingPlaces.{HoldPlaces, clocks_within, hold_all, hold_more, hold_none, hold_same}
use Rattle.event_iteration.proofs.participants.places_at_ticks.Goals as goal
use Rattle.event_iteration.proofs.participants.places_at_ticks.Goals.{then-waits_for_ticks+in_ok-await_clocks, else-waits_for_ticks}

pub loop-k-init : goal.loop-k-init
loop-k-init c = hold_none c.args.system.now (length c.as_slice-ports.result.now) c.in_ok-lists.lists c.in_ok-lists.ensures (ap length c.as_slice-ports.ensures)

pub bounds-ports-p : goal.bounds-ports-p
bounds-ports-p c =
    let d : PortId = record { 0 = 0 } in
    subst (λ (xs : List Port). (get_or c.as_slice-order.result.now c.loop-k.k d).0 < length xs) (sym c.as_slice-ports.ensures) (port_in_order c.args.system.now c.requires c.as_slice-order.result.now c.loop-k.k d c.as_slice-order.ensures c.loop-k-test.true)

pub await_clocks-requires : goal.await_clocks-requires
await_clocks-requires c =
    let system = c.args.system.now in
    let order = c.as_slice-order.result.now in
    let d : PortId = record { 0 = 0 } in
    let p = (get_or order c.loop-k.k d).0 in
    let port = c.index-ports-p.result in
    let is = port_at c.as_slice-ports.result.now system.ports p port c.as_slice-ports.ensures c.index-ports-p.is (port_in_order system c.requires order c.loop-k.k d c.as_slice-order.ensures c.loop-k-test.true) in
    subst (λ (clocks : List PortId). All (λ (x : PortId). x.0 < length c.loop-k.lists) clocks) (sym c.as_slice.ensures) (clocks_within system c.requires p port is (length c.loop-k.lists) c.loop-k.invariant.size)

pub loop-k-preserved : goal.loop-k-preserved
loop-k-preserved c =
    let system = c.args.system.now in
    let order = c.as_slice-order.result.now in
    let k = c.loop-k.k in
    let d : PortId = record { 0 = 0 } in
    let p = (get_or order k d).0 in
    let port = c.index-ports-p.result in
    let at = number_at system.instant_order order k d c.as_slice-order.ensures c.loop-k-test.true in
    let is = port_at c.as_slice-ports.result.now system.ports p port c.as_slice-ports.ensures c.index-ports-p.is (port_in_order system c.requires order k d c.as_slice-order.ensures c.loop-k-test.true) in
    elim c.if-waits_for_ticks.branch as (λ b. HoldPlaces system (k + 1) c.if-waits_for_ticks.lists) [
      | then-waits_for_ticks+in_ok-await_clocks w ↦ subst (HoldPlaces system (k + 1)) (sym w.lists-is) (hold_more system k p port at is c.loop-k.lists c.loop-k.invariant w.await_clocks.new.lists (subst (λ (clocks : List PortId). Awaits clocks k c.loop-k.lists w.await_clocks.new.lists) w.as_slice.ensures w.in_ok-await_clocks.ensures))
      | else-waits_for_ticks w ↦ subst (HoldPlaces system (k + 1)) (sym w.lists-is) (hold_same system k p port at is c.loop-k.lists c.loop-k.invariant (sym c.waits_for_ticks.ensures ∙ w.if-waits_for_ticks.false))
    ]

pub returns : goal.returns
returns c = hold_all c.args.system.now c.requires c.loop-k.k c.loop-k.lists (let over = c.loop-k-test.false in let e = ap length c.as_slice-order.ensures in omega (arith, over, e)) c.loop-k.invariant
