use Rattle.std.proofs.Common.{◌<◌, ◌+◌, [], ◌++◌, map, subst, refl, arith, length}
use Rattle.fmu_peer.specs.CloseAll.{Instance, instance_in}
use Rattle.slot_calls.proofs.CallerLemmas.{told_none, told_on}
use Rattle.event_iteration.specs.Settings.{IsUnset, before_step, port_order}
use Rattle.event_iteration.specs.Turns.{Begun, Walked}
use Rattle.event_iteration.proofs.Departing.{departs_for_machines}
use Rattle.event_iteration.proofs.IdlePorts.{set_next}
use Rattle.event_iteration.proofs.Rounds.{all_instances, components_there}
use Rattle.event_iteration.proofs.Setting.{NoNeeds, about_setting, all_ports, in_order, may_turn, port_number, shapes_mid}
use Rattle.event_iteration.proofs.inputs.set_inputs.Goals as goal
use Rattle.event_iteration.proofs.Walking.{walked_all, walked_more, walked_until}

pub loop-p-init : goal.loop-p-init
loop-p-init g c = record { live = c.requires.live; log = []; told = told_none _; walked = set_next c.args.system.now c.requires.sound c.args.participants.now.set_before_steps.next.items c.requires.participants.set_before_steps c.args.values.now [] 0 c.from-p.result (omega arith) c.from-p.ensures (Begun _ _ _ refl refl refl) }

pub set_input-requires-clause-shapes : goal.set_input-requires-clause-shapes
set_input-requires-clause-shapes g c κs lives =
    shapes_mid c.args.system.now c.requires.sound c.args.values.now c.requires.fitting (map (λ s. instance_in g.L.Peer.view s) c.args.slots.now) (map (λ s. instance_in g.L.Peer.view s) c.loop-p.slots) c.requires.shapes
    (all_instances (λ s. instance_in g.L.Peer.view s) (λ (x : Instance). IsUnset x.view) c.args.slots.now c.requires.unset) c.loop-p.p (let w = c.loop-p-test.true in let n = c.requires.values in omega (arith, w, n)) c.loop-p.invariant.log c.loop-p.invariant.told c.loop-p.invariant.walked

pub set_input-requires-clause-there : goal.set_input-requires-clause-there
set_input-requires-clause-there g c κs lives = components_there c.args.system.now c.requires.sound

pub set_input-requires-clause-may : goal.set_input-requires-clause-may
set_input-requires-clause-may g c κs lives =
    may_turn c.args.system.now c.requires.sound c.args.values.now c.requires.fitting (map (λ s. instance_in g.L.Peer.view s) c.args.slots.now) (map (λ s. instance_in g.L.Peer.view s) c.loop-p.slots) c.requires.shapes
    (all_instances (λ s. instance_in g.L.Peer.view s) (λ (x : Instance). IsUnset x.view) c.args.slots.now c.requires.unset) c.loop-p.p (let w = c.loop-p-test.true in let n = c.requires.values in omega (arith, w, n)) c.loop-p.invariant.log c.loop-p.invariant.told c.loop-p.invariant.walked

pub returns-in-Err-clause-walks : goal.returns-in-Err-clause-walks
returns-in-Err-clause-walks g c =
    let system = c.args.system.now in
    let now = c.args.values.now in
    walked_until (λ q. q < length system.ports) NoNeeds system (before_step now) (about_setting system now) now (port_order system) (in_order system) c.requires.values
    (map (λ s. instance_in g.L.Peer.view s) c.args.slots.now) (map (λ s. instance_in g.L.Peer.view s) c.loop-p.slots) c.loop-p.invariant.log c.loop-p.invariant.told
    c.loop-p.p c.loop-p.p (port_number system c.loop-p.p (let w = c.loop-p-test.true in let n = c.requires.values in omega (arith, w, n))) now now c.loop-p.invariant.walked _ c.in-Err.bad c.in-Err.ensures.turn

pub loop-p-preserved : goal.loop-p-preserved
loop-p-preserved g c =
    let system = c.args.system.now in
    let now = c.args.values.now in
    let turn = c.in-Ok.ensures.turn in
    record {
      live = c.in-Ok.ensures.live;
      log = c.loop-p.invariant.log ++ turn.log;
      told = told_on _ _ _ c.loop-p.invariant.log turn.log c.loop-p.invariant.told turn.told;
      walked = set_next system c.requires.sound c.args.participants.now.set_before_steps.next.items c.requires.participants.set_before_steps now _ (c.loop-p.p + 1) c.from-p-in-loop-p.result (let w = c.loop-p-test.true in let n = c.requires.values in omega (arith, w, n)) c.from-p-in-loop-p.ensures
          (walked_more (λ q. q < length system.ports) NoNeeds system (before_step now) (about_setting system now) now (port_order system) (in_order system) c.requires.values
          (map (λ s. instance_in g.L.Peer.view s) c.args.slots.now) (map (λ s. instance_in g.L.Peer.view s) c.loop-p.slots) c.loop-p.invariant.log c.loop-p.invariant.told
          c.loop-p.p c.loop-p.p (port_number system c.loop-p.p (let w = c.loop-p-test.true in let n = c.requires.values in omega (arith, w, n))) now now c.loop-p.invariant.walked _ turn);
    }

pub returns-clause-walks : goal.returns-clause-walks
returns-clause-walks g c =
    let system = c.args.system.now in
    let now = c.args.values.now in
    walked_all (λ q. q < length system.ports) NoNeeds system (before_step now) (about_setting system now) now (port_order system) (in_order system) c.requires.values
    (map (λ s. instance_in g.L.Peer.view s) c.args.slots.now) (map (λ s. instance_in g.L.Peer.view s) c.loop-p.slots) c.loop-p.invariant.log c.loop-p.invariant.told
    now (subst (λ taken. Walked system (before_step now) now taken now c.loop-p.invariant.log) (all_ports system c.loop-p.p (let w = c.loop-p-test.false in let n = c.requires.values in omega (arith, w, n))) c.loop-p.invariant.walked)

pub returns-clause-departs : goal.returns-clause-departs
returns-clause-departs g c =
    let system = c.args.system.now in
    let now = c.args.values.now in
    departs_for_machines system c.requires.sound now c.requires.values _ _ c.loop-p.invariant.log c.loop-p.invariant.told
    (subst (λ taken. Walked system (before_step now) now taken now c.loop-p.invariant.log) (all_ports system c.loop-p.p (let w = c.loop-p-test.false in let n = c.requires.values in omega (arith, w, n))) c.loop-p.invariant.walked)
