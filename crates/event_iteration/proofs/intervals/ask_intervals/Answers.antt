use Rattle.std.proofs.Common.{ℤ, Option, Ok, Err, List, ◌+◌, refl, sym, subst, ap, ◌∙◌, Some, false, arith, length, get_or, map}
use Rattle.fmi_calls.specs.declared.call.Interval.{Interval}
use Rattle.fmu_peer.specs.CloseAll.{Instance, instance_in}
use Rattle.system_model.specs.Values.{value}
use Rattle.run_model.specs.Timers.{is_armed_for}
use Rattle.tick_schedule.specs.Timetable.{with_clock}
use Rattle.slot_calls.proofs.CallerLemmas.{shapes_same}
use Rattle.event_iteration.specs.Clocks.{timer_in, timers_in}
use Rattle.event_iteration.specs.Instants.{IsRunning}
use Rattle.slot_calls.specs.Slots.{instances}
use Rattle.event_iteration.specs.Questions.{AreRunning, AsksPort, GoesFrom, InstanceMode, IsActive, IsAfter, modes, place_after}
use Rattle.event_iteration.proofs.Fmus.{got}
use Rattle.event_iteration.proofs.IdlePorts.{rearming_next}
use Rattle.event_iteration.proofs.Places.{there_now}
use Rattle.event_iteration.proofs.OverMachines.{rearms_for_machines}
use Rattle.event_iteration.proofs.Rearming.{are_running, goes_from, rearming_all, rearming_more, rearming_none, rearming_rearms, rearming_stands, rearming_until}
use Rattle.event_iteration.proofs.Rounds.{all_instances}
use Rattle.event_iteration.proofs.Taking.{port_at}
use Rattle.event_iteration.proofs.intervals.ask_intervals.Goals as goal

pub loop-p-init : goal.loop-p-init
loop-p-init g c = record {
  live = c.requires.live;
  rearming = rearming_next c.args.system.now c.requires.sound c.args.participants.now.time_clocks.next.items c.requires.participants.time_clocks c.args.per_second c.args.t 0 c.from-p.result c.args.is_first c.args.values.now c.requires.places c.args.schedule.now c.args.schedule.now false
      (map (λ s. instance_in g.L.Peer.view s) c.args.slots.now) (map (λ s. instance_in g.L.Peer.view s) c.args.slots.now) c.requires.stands (omega arith) c.from-p.ensures
      (rearming_none c.args.system.now c.args.per_second c.args.t c.args.values.now c.args.schedule.now (map (λ s. instance_in g.L.Peer.view s) c.args.slots.now));
}

pub bounds-ports-p : goal.bounds-ports-p
bounds-ports-p g c = let w = c.loop-p-test.true in let n = c.requires.places in let e = ap length c.as_slice-ports.ensures in omega (arith, w, n, e)

pub ask_interval-requires-clause-port : goal.ask_interval-requires-clause-port
ask_interval-requires-clause-port g c κs lives = let w = c.loop-p-test.true in let n = c.requires.places in omega (arith, w, n)

pub ask_interval-requires-clause-shapes : goal.ask_interval-requires-clause-shapes
ask_interval-requires-clause-shapes g c κs lives =
    let prefix = c.loop-p.invariant.rearming in
    shapes_same prefix.log (map (λ s. instance_in g.L.Peer.view s) c.args.slots.now) (map (λ s. instance_in g.L.Peer.view s) c.loop-p.slots) prefix.told ∙ c.requires.shapes

pub ask_interval-requires-clause-running : goal.ask_interval-requires-clause-running
ask_interval-requires-clause-running g c κs lives =
    let system = c.args.system.now in
    let olds = map (λ s. instance_in g.L.Peer.view s) c.args.slots.now in
    subst (AreRunning system) (sym c.loop-p.invariant.rearming.modes_are) (are_running system olds c.requires.shapes (all_instances (λ s. instance_in g.L.Peer.view s) (λ (x : Instance). IsRunning x.view) c.args.slots.now c.requires.running))

pub ask_interval-requires-clause-active : goal.ask_interval-requires-clause-active
ask_interval-requires-clause-active g c κs lives =
    let P : List InstanceMode → Type 0 = IsActive c.args.system.now c.loop-p.p (value c.args.values.now c.loop-p.p) in
    subst (λ (v : Option ℤ). IsActive c.args.system.now c.loop-p.p v (modes (instances g.L.Peer.view c.loop-p.slots))) (sym c.at.ensures) (subst P (sym c.loop-p.invariant.rearming.modes_are) (c.requires.active c.loop-p.p))

pub returns-in-Err-clause-asks : goal.returns-in-Err-clause-asks
returns-in-Err-clause-asks g c =
    let system = c.args.system.now in
    let port = (got system.ports c.loop-p.p (let w = c.loop-p-test.true in let n = c.requires.places in omega (arith, w, n))) in
    rearming_until system c.args.per_second c.args.t c.loop-p.p c.args.values.now c.requires.places port.0 port.1 c.args.schedule.now c.loop-p.schedule c.loop-p.schedule c.loop-p.is_armed false
    (map (λ s. instance_in g.L.Peer.view s) c.args.slots.now) (map (λ s. instance_in g.L.Peer.view s) c.loop-p.slots) (map (λ s. instance_in g.L.Peer.view s) c.ask_interval.new.slots)
    c.loop-p.invariant.rearming c.in-Err.bad (timers_in c.loop-p.schedule)
    (subst (λ (v : Option ℤ). AsksPort system c.loop-p.p v (map (λ s. instance_in g.L.Peer.view s) c.loop-p.slots) (map (λ s. instance_in g.L.Peer.view s) c.ask_interval.new.slots) (Err c.in-Err.bad)) c.at.ensures c.in-Err.ensures.asks)

pub go_on-is_armed-requires : goal.go_on-is_armed-requires
go_on-is_armed-requires g c =
    let system = c.args.system.now in
    let port = get_or c.as_slice-ports.result.now c.loop-p.p c.index-ports-p.result in
    let is = port_at _ system.ports c.loop-p.p c.index-ports-p.result c.as_slice-ports.ensures c.index-ports-p.is (let w = c.loop-p-test.true in let n = c.requires.places in omega (arith, w, n)) ∙ ap Some c.index-ports-p.is in
    record {
      place = subst (GoesFrom c.loop-p.schedule port.role c.args.t c.loop-p.p) (sym c.at-in-loop-p.ensures) (goes_from system c.args.per_second c.args.t c.args.is_first c.args.values.now c.args.schedule.now c.requires.stands c.requires.ticks c.loop-p.p port c.loop-p.schedule c.loop-p.is_armed
          (map (λ s. instance_in g.L.Peer.view s) c.args.slots.now) (map (λ s. instance_in g.L.Peer.view s) c.loop-p.slots) is c.loop-p.invariant.rearming);
    }

pub loop-p-preserved : goal.loop-p-preserved
loop-p-preserved g c =
    let system = c.args.system.now in
    let values = c.args.values.now in
    let olds = map (λ s. instance_in g.L.Peer.view s) c.args.slots.now in
    let mids = map (λ s. instance_in g.L.Peer.view s) c.loop-p.slots in
    let news = map (λ s. instance_in g.L.Peer.view s) c.ask_interval.new.slots in
    let port = get_or c.as_slice-ports.result.now c.loop-p.p c.index-ports-p.result in
    let is = port_at _ system.ports c.loop-p.p c.index-ports-p.result c.as_slice-ports.ensures c.index-ports-p.is (let w = c.loop-p-test.true in let n = c.requires.places in omega (arith, w, n)) ∙ ap Some c.index-ports-p.is in
    let prefix = c.loop-p.invariant.rearming in
    let from = goes_from system c.args.per_second c.args.t c.args.is_first values c.args.schedule.now c.requires.stands c.requires.ticks c.loop-p.p port c.loop-p.schedule c.loop-p.is_armed olds mids is prefix in
    let after = subst (λ (v : Option ℤ). IsAfter port.role c.args.per_second c.args.t c.loop-p.p v c.interval_by-told.result c.loop-p.schedule c.go_on-is_armed.new.schedule) c.at-in-loop-p.ensures c.go_on-is_armed.ensures.goes from.place from.is in
    let armed = c.go_on-is_armed.ensures.armed _ (there_now c.loop-p.schedule c.go_on-is_armed.new.schedule c.loop-p.p from.place _ from.is after) in
    record {
      live = c.in-Ok.ensures.live;
      rearming = rearming_next system c.requires.sound c.args.participants.now.time_clocks.next.items c.requires.participants.time_clocks c.args.per_second c.args.t (c.loop-p.p + 1) c.from-p-in-loop-p.result c.args.is_first values c.requires.places c.args.schedule.now c.go_on-is_armed.new.schedule _ olds news
          c.requires.stands (let w = c.loop-p-test.true in let n = c.requires.places in omega (arith, w, n)) c.from-p-in-loop-p.ensures
          (rearming_more system c.args.per_second c.args.t c.loop-p.p values c.requires.places port is c.args.schedule.now c.loop-p.schedule c.go_on-is_armed.new.schedule c.loop-p.is_armed c.go_on-is_armed.result
          olds mids news prefix c.in-Ok.reply (subst (λ (v : Option ℤ). AsksPort system c.loop-p.p v mids news (Ok c.in-Ok.reply)) c.at.ensures c.in-Ok.ensures.asks) c.in-Ok.ensures.modes from.place from.is
          (after ∙ ap (λ (told : Interval). with_clock c.loop-p.schedule c.loop-p.p (place_after port.role c.args.per_second c.args.t (value values c.loop-p.p) told from.place)) c.interval_by-told.ensures)
          (armed ∙ ap (λ (told : Interval). is_armed_for c.args.t (timer_in (place_after port.role c.args.per_second c.args.t (value values c.loop-p.p) told from.place))) c.interval_by-told.ensures)
          _ refl);
    }

pub returns-clause-run : goal.returns-clause-run
returns-clause-run g c = let after = c.loop-p.invariant.rearming.after in (after.start, after.stop)

pub returns-in-Err-clause-run : goal.returns-in-Err-clause-run
returns-in-Err-clause-run g c = let after = c.loop-p.invariant.rearming.after in (after.start, after.stop)

pub returns-clause-stands : goal.returns-clause-stands
returns-clause-stands g c =
    rearming_stands c.args.system.now c.requires.sound c.args.per_second c.args.t c.loop-p.p c.args.is_first c.args.values.now c.requires.places c.args.schedule.now c.loop-p.schedule c.loop-p.is_armed
    (map (λ s. instance_in g.L.Peer.view s) c.args.slots.now) (map (λ s. instance_in g.L.Peer.view s) c.loop-p.slots) c.requires.stands c.requires.ticks
    (let w = c.loop-p-test.false in let n = c.requires.places in omega (arith, w, n)) c.loop-p.invariant.rearming

pub returns-clause-asks : goal.returns-clause-asks
returns-clause-asks g c =
    rearming_all c.args.system.now c.requires.sound c.args.per_second c.args.t c.loop-p.p c.args.is_first c.args.values.now c.requires.places c.args.schedule.now c.loop-p.schedule c.loop-p.is_armed
    (map (λ s. instance_in g.L.Peer.view s) c.args.slots.now) (map (λ s. instance_in g.L.Peer.view s) c.loop-p.slots) c.requires.stands c.requires.ticks
    (let w = c.loop-p-test.false in let n = c.requires.places in omega (arith, w, n)) c.loop-p.invariant.rearming

pub returns-clause-machines : goal.returns-clause-machines
returns-clause-machines g c =
    let olds = map (λ s. instance_in g.L.Peer.view s) c.args.slots.now in
    let mids = map (λ s. instance_in g.L.Peer.view s) c.loop-p.slots in
    let all = c.loop-p.invariant.rearming in
    rearms_for_machines olds mids all.log all.told c.args.system.now c.requires.sound c.args.per_second c.args.t c.args.values.now (timers_in c.args.schedule.now) (timers_in c.loop-p.schedule)
    (rearming_rearms c.args.system.now c.requires.sound c.args.per_second c.args.t c.loop-p.p c.args.is_first c.args.values.now c.requires.places c.args.schedule.now c.loop-p.schedule c.loop-p.is_armed olds mids c.requires.stands c.requires.ticks
    (let w = c.loop-p-test.false in let n = c.requires.places in omega (arith, w, n)) all)
