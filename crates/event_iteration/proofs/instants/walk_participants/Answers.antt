use Rattle.std.proofs.Common.{◌≡◌, ◌≤◌, ◌<◌, ◌+◌, ℕ, ℤ, Bool, true, false, [], List, Option, Contains, inl, inr, ap, arith, get_or, length, map, refl, subst, sym, take, ◌∙◌}
use Rattle.std.specs.Prelude.{All, Ok, Some, slice_get, slice_set}
use Rattle.std.proofs.lemmas.List.{length-map, length-set, take_all}
use Rattle.sim_base.specs.declared.numbers.PortId.{PortId}
use Rattle.fmu_peer.specs.CloseAll.{Instance, instance_in}
use Rattle.system_model.specs.Ports.{port_numbers}
use Rattle.system_model.specs.Values.{value, is_active}
use Rattle.run_model.proofs.CallerLemmas.{none_in}
use Rattle.slot_calls.proofs.CallerLemmas.{told_none}
use Rattle.event_iteration.specs.Clocks.{is_due_at}
use Rattle.event_iteration.specs.Instants.{BeginsInstant, in_instant}
use Rattle.event_iteration.specs.Turns.{Begun, Walked}
use Rattle.event_iteration.specs.Waits.{EndsBadly, Gathers, GathersSome, KeepsOthers, place}
use Rattle.event_iteration.proofs.ByWalk.{may_walk_in_instant}
use Rattle.event_iteration.proofs.LeftOut.{Knows, ahead_more, due_from, knows_more, knows_next, none_pending, rows_within}
use Rattle.event_iteration.proofs.Skipping.{port_in_order}
use Rattle.event_iteration.proofs.Rounds.{all_instances, number_at}
use Rattle.event_iteration.proofs.Steps.{rested, walked_now}
use Rattle.event_iteration.proofs.WalkNeeds.{after_in_instant, turns_in_instant}
use Rattle.event_iteration.proofs.instants.walk_participants.Goals as goal

pub loop-k-init : goal.loop-k-init
loop-k-init g c =
    let system = c.args.system.now in
    let turns = c.args.turns.now in
    let ticks = is_due_at turns.schedule.now turns.t in
    let slots = map (λ s. instance_in g.L.Peer.view s) c.args.slots.now in
    let values = c.args.values.now in
    let begins = all_instances (λ s. instance_in g.L.Peer.view s) (λ (x : Instance). BeginsInstant x.view) c.args.slots.now c.requires.begins in
    let first = rested system (in_instant ticks turns.is_first) values (port_numbers system.instant_order) slots 0 c.none-waiting.result values slots (turns_in_instant system c.requires.sound ticks turns.is_first) (after_in_instant system c.requires.sound)
    (may_walk_in_instant system c.requires.sound slots c.requires.shapes ticks turns.is_first values c.requires.values c.requires.fitting begins) c.requires.shapes c.requires.values c.requires.fitting [] (told_none slots) (omega arith) c.none-waiting.ensures.none
    (ap (λ (n : ℕ). take n c.none-waiting.result.inputs) c.none-waiting.ensures.passed) (let n = c.none-waiting.ensures.passed in omega (arith, n)) c.none-waiting.ensures.kind (Begun [] values [] refl refl refl) in
    let knows = knows_next system c.requires.sound c.args.participants.now c.requires.participants ticks turns.is_first values c.args.pending.now c.requires.awaited slots 0 c.next_place-k.result c.none-waiting.result values slots c.args.pending.now (omega arith) (omega arith) c.next_place-k.ensures.steady c.next_place-k.ensures.idle
    (record { gathers = first; awaits = λ a j p port low at is waits m taken active. absurd (none_in a taken); untaken = λ q m. refl; left = λ j low due. due }) in
    record {
      live = c.requires.live;
      gathers = knows.gathers;
      room = refl;
      ahead = λ j due. due_from c.args.pending.now c.next_place-k.result j c.next_place-k.ensures.idle due;
      awaits = knows.awaits;
      left = knows.left;
      untaken = knows.untaken;
    }

pub go_on-requires-clause-gathered : goal.go_on-requires-clause-gathered
go_on-requires-clause-gathered g c κs lives =
    let system = c.args.system.now in
    let turns = c.args.turns.now in
    let slots = map (λ s. instance_in g.L.Peer.view s) c.args.slots.now in (
      c.args.values.now,
      slots,
      subst (λ (xs : List PortId). Gathers system (in_instant (is_due_at turns.schedule.now turns.t) turns.is_first) c.args.values.now (port_numbers xs) slots c.loop-k.k c.loop-k.waiting c.loop-k.values (map (λ s. instance_in g.L.Peer.view s) c.loop-k.slots)) (sym c.as_slice-order.ensures) c.loop-k.invariant.gathers,
    )

pub next_place-k-requires-in-loop-k-clause-on : goal.next_place-k-requires-in-loop-k-clause-on
next_place-k-requires-in-loop-k-clause-on g c = c.requires.participants.steady.after (c.loop-k.k + 1)

pub next_place-k-requires-in-loop-k-clause-ahead : goal.next_place-k-requires-in-loop-k-clause-ahead
next_place-k-requires-in-loop-k-clause-ahead g c =
    let system = c.args.system.now in
    let it = c.args.participants.now in
    let order = c.as_slice-order.result.now in
    let k = c.loop-k.k in
    let d : PortId = record { 0 = 0 } in
    let at = number_at system.instant_order order k d c.as_slice-order.ensures c.loop-k-test.true in
    ahead_more system c.requires.sound it.at_ticks c.requires.participants.at_ticks k (get_or order k d).0 at c.is_active-ticks.result c.loop-k.pending c.pass_place.new.pending c.pass_place.ensures c.loop-k.invariant.ahead

pub loop-k-preserved : goal.loop-k-preserved
loop-k-preserved g c =
    let system = c.args.system.now in
    let turns = c.args.turns.now in
    let ticks = is_due_at turns.schedule.now turns.t in
    let rules = in_instant ticks turns.is_first in
    let values = c.args.values.now in
    let olds = map (λ s. instance_in g.L.Peer.view s) c.args.slots.now in
    let mids = map (λ s. instance_in g.L.Peer.view s) c.loop-k.slots in
    let news = map (λ s. instance_in g.L.Peer.view s) c.go_on.new.slots in
    let order = c.as_slice-order.result.now in
    let k = c.loop-k.k in
    let p = (get_or order k (record { 0 = 0 })).0 in
    let same = c.as_slice-order.ensures in
    let at : slice_get (port_numbers system.instant_order) k ≡ Some p = subst (λ (xs : List PortId). slice_get (port_numbers xs) k ≡ Some p) same (number_at order order k (record { 0 = 0 }) refl c.loop-k-test.true) in
    let was = subst (λ (xs : List PortId). Gathers system rules values (port_numbers xs) olds k c.loop-k.waiting c.loop-k.values mids) (sym same) c.loop-k.invariant.gathers in
    let moved = subst (λ (xs : List PortId). Gathers system rules values (port_numbers xs) olds (k + 1) c.go_on.new.waiting c.go_on.new.values news × KeepsOthers system (port_numbers xs) (place k c.loop-k.waiting c.loop-k.values mids) (place (k + 1) c.go_on.new.waiting c.go_on.new.values news))
    same (c.in-Some.ensures.moves values olds was) in
    let before : Knows system rules values olds c.args.pending.now k c.loop-k.waiting c.loop-k.values mids c.loop-k.pending = record { gathers = c.loop-k.invariant.gathers; awaits = c.loop-k.invariant.awaits; untaken = c.loop-k.invariant.untaken; left = c.loop-k.invariant.left } in
    let more = c.pass_place.new.pending in
    let passes = c.pass_place.ensures in
    let there : is_active (value c.go_on.new.values p) ≡ true → (j : ℕ) → Contains (get_or c.args.participants.now.at_ticks p []) j → get_or more j false ≡ true = λ active. passes.there (c.is_active-ticks.ensures ∙ ap is_active c.at.ensures ∙ active) in
    let low = c.loop-k-test.true in
    let long = ap length c.as_slice-order.ensures in
    let after = knows_more system c.requires.sound c.args.participants.now c.requires.participants ticks turns.is_first values c.args.pending.now c.requires.awaited olds k p at c.loop-k.waiting c.go_on.new.waiting c.loop-k.values c.go_on.new.values mids news c.loop-k.pending more before moved passes.kept there in
    let next = knows_next system c.requires.sound c.args.participants.now c.requires.participants ticks turns.is_first values c.args.pending.now c.requires.awaited olds (k + 1) c.next_place-k-in-loop-k.result c.go_on.new.waiting c.go_on.new.values news more (omega (arith, low, long)) c.next_place-k-in-loop-k.ensures.after c.next_place-k-in-loop-k.ensures.steady c.next_place-k-in-loop-k.ensures.idle
    after in
    record {
      live = c.in-Some.ensures.live;
      gathers = next.gathers;
      room = passes.size ∙ c.loop-k.invariant.room;
      ahead = λ j due. due_from more c.next_place-k-in-loop-k.result j c.next_place-k-in-loop-k.ensures.idle due;
      awaits = next.awaits;
      left = next.left;
      untaken = next.untaken;
    }

pub send_waiting-requires-clause-gathered : goal.send_waiting-requires-clause-gathered
send_waiting-requires-clause-gathered g c κs lives =
    record { before = c.args.values.now; order = port_numbers c.args.system.now.instant_order; olds = map (λ s. instance_in g.L.Peer.view s) c.args.slots.now; k = c.loop-k.k; gathers = c.loop-k.invariant.gathers }

pub returns-in-Some-send_waiting-clause-goes : goal.returns-in-Some-send_waiting-clause-goes
returns-in-Some-send_waiting-clause-goes g c =
    let system = c.args.system.now in
    let turns = c.args.turns.now in
    let rules = in_instant (is_due_at turns.schedule.now turns.t) turns.is_first in
    let order = port_numbers system.instant_order in
    let before = c.args.values.now in
    let olds = map (λ s. instance_in g.L.Peer.view s) c.args.slots.now in
    let last = (c.in-Some-send_waiting.ensures.sends order c.loop-k.k before olds c.loop-k.invariant.gathers).0 in (
      last.log,
      last.told,
      subst (λ (l : List ℕ). Walked system rules before l c.send_waiting.new.values last.log) (take_all c.loop-k.k order (let past = c.loop-k-test.false in let long = ap length c.as_slice-order.ensures in let n = length-map system.instant_order (λ (x : PortId). x.0) in omega (arith, past, long, n)))
          (walked_now system rules before order olds c.loop-k.k c.send_waiting.new.waiting c.send_waiting.new.values (map (λ s. instance_in g.L.Peer.view s) c.send_waiting.new.slots) last c.in-Some-send_waiting.ensures.none),
    )

pub returns-in-Some-send_waiting-clause-fitting : goal.returns-in-Some-send_waiting-clause-fitting
returns-in-Some-send_waiting-clause-fitting g c =
    (c.in-Some-send_waiting.ensures.sends (port_numbers c.args.system.now.instant_order) c.loop-k.k c.args.values.now (map (λ s. instance_in g.L.Peer.view s) c.args.slots.now) c.loop-k.invariant.gathers).0.fits

pub returns-in-Some-send_waiting-clause-idle : goal.returns-in-Some-send_waiting-clause-idle
returns-in-Some-send_waiting-clause-idle g c = none_pending c.loop-k.pending (length c.args.system.now.instant_order) c.loop-k.k (c.loop-k.invariant.room ∙ c.requires.pending) (let past = c.loop-k-test.false in let long = ap length c.as_slice-order.ensures in omega (arith, past, long)) c.loop-k.invariant.ahead

pub returns-in-None-send_waiting-clause-goes : goal.returns-in-None-send_waiting-clause-goes
returns-in-None-send_waiting-clause-goes g c =
    (c.in-None-send_waiting.ensures.sends (port_numbers c.args.system.now.instant_order) c.loop-k.k c.args.values.now (map (λ s. instance_in g.L.Peer.view s) c.args.slots.now) c.loop-k.invariant.gathers).1

pub returns-in-None-send_waiting-clause-fitting : goal.returns-in-None-send_waiting-clause-fitting
returns-in-None-send_waiting-clause-fitting g c =
    (c.in-None-send_waiting.ensures.sends (port_numbers c.args.system.now.instant_order) c.loop-k.k c.args.values.now (map (λ s. instance_in g.L.Peer.view s) c.args.slots.now) c.loop-k.invariant.gathers).0

pub returns-in-Some-send_waiting-clause-pending : goal.returns-in-Some-send_waiting-clause-pending
returns-in-Some-send_waiting-clause-pending g c = c.loop-k.invariant.room

pub returns-in-None-send_waiting-clause-pending : goal.returns-in-None-send_waiting-clause-pending
returns-in-None-send_waiting-clause-pending g c = c.loop-k.invariant.room

pub returns-in-None-clause-pending : goal.returns-in-None-clause-pending
returns-in-None-clause-pending g c = c.loop-k.invariant.room

pub returns-in-None-clause-goes : goal.returns-in-None-clause-goes
returns-in-None-clause-goes g c =
    let system = c.args.system.now in
    let turns = c.args.turns.now in
    let rules = in_instant (is_due_at turns.schedule.now turns.t) turns.is_first in
    let olds = map (λ s. instance_in g.L.Peer.view s) c.args.slots.now in
    subst (λ (xs : List PortId). EndsBadly system rules c.args.values.now (port_numbers xs) olds (map (λ s. instance_in g.L.Peer.view s) c.go_on.new.slots) c.go_on.new.bad) c.as_slice-order.ensures
    (c.in-None.ensures.moves c.args.values.now olds
    (subst (λ (xs : List PortId). Gathers system rules c.args.values.now (port_numbers xs) olds c.loop-k.k c.loop-k.waiting c.loop-k.values (map (λ s. instance_in g.L.Peer.view s) c.loop-k.slots)) (sym c.as_slice-order.ensures) c.loop-k.invariant.gathers)).1

pub returns-in-None-clause-fitting : goal.returns-in-None-clause-fitting
returns-in-None-clause-fitting g c =
    let system = c.args.system.now in
    let turns = c.args.turns.now in
    let rules = in_instant (is_due_at turns.schedule.now turns.t) turns.is_first in
    let olds = map (λ s. instance_in g.L.Peer.view s) c.args.slots.now in
    (c.in-None.ensures.moves c.args.values.now olds
    (subst (λ (xs : List PortId). Gathers system rules c.args.values.now (port_numbers xs) olds c.loop-k.k c.loop-k.waiting c.loop-k.values (map (λ s. instance_in g.L.Peer.view s) c.loop-k.slots)) (sym c.as_slice-order.ensures) c.loop-k.invariant.gathers)).0

pub pass_place-requires-clause-place : goal.pass_place-requires-clause-place
pass_place-requires-clause-place g c = let low = c.loop-k-test.true in let long = ap length c.as_slice-order.ensures in let room = c.loop-k.invariant.room in let n = c.requires.pending in omega (arith, low, long, room, n)

pub pass_place-requires-clause-port : goal.pass_place-requires-clause-port
pass_place-requires-clause-port g c =
    let d : PortId = record { 0 = 0 } in
    let low = port_in_order c.args.system.now c.requires.sound c.as_slice-order.result.now c.loop-k.k d c.as_slice-order.ensures c.loop-k-test.true in
    let size = c.requires.participants.at_ticks.size in
    omega (arith, low, size)

pub pass_place-requires-clause-rows : goal.pass_place-requires-clause-rows
pass_place-requires-clause-rows g c =
    let d : PortId = record { 0 = 0 } in
    rows_within c.args.system.now c.requires.sound c.args.participants.now.at_ticks c.requires.participants.at_ticks (get_or c.as_slice-order.result.now c.loop-k.k d).0 (length c.loop-k.pending) (c.loop-k.invariant.room ∙ c.requires.pending)

pub go_on-requires-clause-live : goal.go_on-requires-clause-live
go_on-requires-clause-live g c κs lives = c.loop-k.invariant.live

pub send_waiting-requires-clause-live : goal.send_waiting-requires-clause-live
send_waiting-requires-clause-live g c κs lives = c.loop-k.invariant.live
