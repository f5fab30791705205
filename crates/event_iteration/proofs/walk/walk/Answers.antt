use Rattle.std.proofs.Common.{◌≡◌, ◌≤◌, ℕ, ℤ, [], List, Option, length, map, refl, ap, subst, arith, take}
use Rattle.std.proofs.lemmas.List.{length-map, take_all}
use Rattle.sim_base.specs.declared.numbers.PortId.{PortId}
use Rattle.fmu_peer.specs.CloseAll.{Instance, instance_in}
use Rattle.system_model.specs.declared.system.System.{System}
use Rattle.system_model.specs.Ports.{port_numbers}
use Rattle.slot_calls.proofs.CallerLemmas.{told_none}
use Rattle.event_iteration.specs.declared.walk.Waiting.{Waiting}
use Rattle.event_iteration.specs.Turns.{Begun, Rules, Walked}
use Rattle.event_iteration.specs.Waits.{Gathers}
use Rattle.event_iteration.proofs.Steps.{rested, walked_now}
use Rattle.event_iteration.proofs.walk.walk.Goals as goal

-- after the last port of the order
at_end : {system : System} {rules : Rules} {before values : List (Option ℤ)} {olds is : List Instance} {k : ℕ} {w : Waiting} (order : List PortId) → Gathers system rules before (port_numbers order) olds k w values is → length order ≤ k →
    Gathers system rules before (port_numbers order) olds (length order) w values is
at_end {system = system} {rules = rules} {before = before} {values = values} {olds = olds} {is = is} {k = k} {w = w} order gathers end =
    let all : k ≡ length order = (let m = gathers.within in let n = length-map order (λ (x : PortId). x.0) in omega (arith, end, m, n)) in
    subst (λ (n : ℕ). Gathers system rules before (port_numbers order) olds n w values is) all gathers

whole : (order : List PortId) → take (length order) (port_numbers order) ≡ port_numbers order
whole order = take_all (length order) (port_numbers order) (let n = length-map order (λ (x : PortId). x.0) in omega (arith, n))

pub loop-k-init : goal.loop-k-init
loop-k-init g c =
    let system = c.args.system.now in
    let slots = map (λ s. instance_in g.L.Peer.view s) c.args.slots.now in
    record {
      live = c.requires.live;
      gathers = rested system (g.T.Turns.rules c.args.turns.now system) c.args.values.now (port_numbers c.args.order.now) slots 0 c.none-waiting.result c.args.values.now slots c.requires.local c.requires.order c.requires.may c.requires.shapes c.requires.values c.requires.fitting [] (told_none slots)
          (omega arith) c.none-waiting.ensures.none (ap (λ (n : ℕ). take n c.none-waiting.result.inputs) c.none-waiting.ensures.passed) (let n = c.none-waiting.ensures.passed in omega (arith, n)) c.none-waiting.ensures.kind (Begun [] c.args.values.now [] refl refl refl);
    }

pub returns-in-None-clause-fitting : goal.returns-in-None-clause-fitting
returns-in-None-clause-fitting g c = (c.in-None.ensures.moves c.args.values.now (map (λ s. instance_in g.L.Peer.view s) c.args.slots.now) c.loop-k.invariant.gathers).0

pub loop-k-preserved : goal.loop-k-preserved
loop-k-preserved g c =
    record { live = c.in-Some.ensures.live; gathers = (c.in-Some.ensures.moves c.args.values.now (map (λ s. instance_in g.L.Peer.view s) c.args.slots.now) c.loop-k.invariant.gathers).0 }

pub send_waiting-requires-clause-gathered : goal.send_waiting-requires-clause-gathered
send_waiting-requires-clause-gathered g c κs lives =
    record { before = c.args.values.now; order = port_numbers c.args.order.now; olds = map (λ s. instance_in g.L.Peer.view s) c.args.slots.now; k = length c.args.order.now; gathers = at_end c.args.order.now c.loop-k.invariant.gathers c.loop-k-test.false }

pub returns-in-Some-send_waiting-clause-goes : goal.returns-in-Some-send_waiting-clause-goes
returns-in-Some-send_waiting-clause-goes g c =
    let system = c.args.system.now in
    let rules = g.T.Turns.rules c.args.turns.now system in
    let order = c.args.order.now in
    let before = c.args.values.now in
    let olds = map (λ s. instance_in g.L.Peer.view s) c.args.slots.now in
    let last = (c.in-Some-send_waiting.ensures.sends (port_numbers c.args.order.now) (length c.args.order.now) before olds (at_end c.args.order.now c.loop-k.invariant.gathers c.loop-k-test.false)).0 in (
      last.log,
      last.told,
      subst (λ (l : List ℕ). Walked system rules before l c.send_waiting.new.values last.log) (whole order)
          (walked_now system rules before (port_numbers order) olds (length order) c.send_waiting.new.waiting c.send_waiting.new.values (map (λ s. instance_in g.L.Peer.view s) c.send_waiting.new.slots) last c.in-Some-send_waiting.ensures.none),
    )

pub returns-in-Some-send_waiting-clause-fitting : goal.returns-in-Some-send_waiting-clause-fitting
returns-in-Some-send_waiting-clause-fitting g c =
    (c.in-Some-send_waiting.ensures.sends (port_numbers c.args.order.now) (length c.args.order.now) c.args.values.now (map (λ s. instance_in g.L.Peer.view s) c.args.slots.now) (at_end c.args.order.now c.loop-k.invariant.gathers c.loop-k-test.false)).0.fits

pub returns-in-None-send_waiting-clause-goes : goal.returns-in-None-send_waiting-clause-goes
returns-in-None-send_waiting-clause-goes g c =
    (c.in-None-send_waiting.ensures.sends (port_numbers c.args.order.now) (length c.args.order.now) c.args.values.now (map (λ s. instance_in g.L.Peer.view s) c.args.slots.now) (at_end c.args.order.now c.loop-k.invariant.gathers c.loop-k-test.false)).1

pub returns-in-None-send_waiting-clause-fitting : goal.returns-in-None-send_waiting-clause-fitting
returns-in-None-send_waiting-clause-fitting g c =
    (c.in-None-send_waiting.ensures.sends (port_numbers c.args.order.now) (length c.args.order.now) c.args.values.now (map (λ s. instance_in g.L.Peer.view s) c.args.slots.now) (at_end c.args.order.now c.loop-k.invariant.gathers c.loop-k-test.false)).0

pub returns-in-None-clause-goes : goal.returns-in-None-clause-goes
returns-in-None-clause-goes g c = (c.in-None.ensures.moves c.args.values.now (map (λ s. instance_in g.L.Peer.view s) c.args.slots.now) c.loop-k.invariant.gathers).1
