use Rattle.std.proofs.Common.{◌<◌, ◌+◌, ◌∙◌, inl, inr, ℤ, List, Option, None, length, map, refl, sym, ap, arith, subst, get_or}
use Rattle.std.specs.Prelude.{slice_set}
use Rattle.sim_base.specs.declared.numbers.PortId.{PortId}
use Rattle.fmu_peer.specs.CloseAll.{instance_in}
use Rattle.system_model.specs.declared.system.Port.{Port}
use Rattle.system_model.specs.Ports.{port_numbers}
use Rattle.system_model.proofs.CallerLemmas.{place_of}
use Rattle.event_iteration.specs.declared.walk.Way.{Way}
use Rattle.event_iteration.specs.BadEnds.{or_bad}
use Rattle.event_iteration.specs.Waits.{Gathers, IsWay, KeepsOthers, place}
use Rattle.event_iteration.proofs.Fmus.{got}
use Rattle.event_iteration.proofs.Rounds.{components_there, number_at}
use Rattle.event_iteration.proofs.Runs.{keeps_all, keeps_but, moves_asked, port_there}
use Rattle.event_iteration.proofs.Steps.{may_now, passes, quiet, waits_too}
use Rattle.event_iteration.proofs.Taking.{port_at}
use Rattle.event_iteration.proofs.Turned.{value_by}
use Rattle.event_iteration.proofs.walk.advance.Goals as goal

pub returns-in-Skip-clause-moves : goal.returns-in-Skip-clause-moves
returns-in-Skip-clause-moves g c =
    let system = c.args.system.now in
    let rules = g.T.Turns.rules c.args.turns.now system in
    let order = c.args.order.now in
    let k = c.args.k in
    let w = c.args.waiting.now in
    let values = c.args.values.now in
    let d : PortId = record { 0 = 0 } in
    let p = (get_or order k d).0 in
    let port = got system.ports p (port_there c.args.order.now c.requires.gathered c.requires.within d) in
    let placed = place_of system c.requires.sound p port.0 port.1 in
    let way = subst (λ (x : Way). IsWay system rules w p values x) c.in-Skip.is (c.requires.way d) in
    λ before olds gathers. (
      passes system c.requires.sound rules before (port_numbers order) olds k w values (map (λ s. instance_in g.L.Peer.view s) c.args.slots.now) gathers p (number_at order order k d refl c.requires.within)
          port.0 port.1 placed.component placed.is.of way.0 way.1 way.2 c.pass.new.self c.pass.ensures.others c.pass.ensures.inputs c.pass.ensures.passed,
      keeps_all system (port_numbers order) k (k + 1) w c.pass.new.self values _ _,
    )

pub pass-requires : goal.pass-requires
pass-requires g c =
    let system = c.args.system.now in
    let rules = g.T.Turns.rules c.args.turns.now system in
    let d : PortId = record { 0 = 0 } in
    let way = subst (λ (x : Way). IsWay system rules c.args.waiting.now (get_or c.args.order.now c.args.k d).0 c.args.values.now x) c.in-Skip.is (c.requires.way d) in
    record { few = way.2 }

pub bounds-as_slice-p : goal.bounds-as_slice-p
bounds-as_slice-p g c =
    let d : PortId = record { 0 = 0 } in
    subst (λ (xs : List Port). (get_or c.args.order.now c.args.k d).0 < length xs) (sym c.as_slice.ensures) (port_there c.args.order.now c.requires.gathered c.requires.within d)

pub bounds-as_slice-p-in-Wait : goal.bounds-as_slice-p-in-Wait
bounds-as_slice-p-in-Wait g c =
    let d : PortId = record { 0 = 0 } in
    subst (λ (xs : List Port). (get_or c.args.order.now c.args.k d).0 < length xs) (sym c.as_slice.ensures) (port_there c.args.order.now c.requires.gathered c.requires.within d)

pub push-requires : goal.push-requires
push-requires g c =
    let system = c.args.system.now in
    let rules = g.T.Turns.rules c.args.turns.now system in
    let d : PortId = record { 0 = 0 } in
    let p = (get_or c.args.order.now c.args.k d).0 in
    let port = c.index-as_slice-p.result in
    let is = port_at _ system.ports p port c.as_slice.ensures c.index-as_slice-p.is (port_there c.args.order.now c.requires.gathered c.requires.within d) in
    let placed = place_of system c.requires.sound p port is in
    let way = subst (λ (x : Way). IsWay system rules c.args.waiting.now p c.args.values.now x) c.in-Wait.is (c.requires.way d) in
    record {
      few = elim (way.2 port placed.component is placed.is.of).0 [
        | inl none ↦ omega (arith, none)
        | inr alike ↦ alike.0
      ];
    }

pub returns-in-Wait-clause-moves : goal.returns-in-Wait-clause-moves
returns-in-Wait-clause-moves g c =
    let system = c.args.system.now in
    let rules = g.T.Turns.rules c.args.turns.now system in
    let order = c.args.order.now in
    let k = c.args.k in
    let w = c.args.waiting.now in
    let values = c.args.values.now in
    let d : PortId = record { 0 = 0 } in
    let p = (get_or order k d).0 in
    let port = c.index-as_slice-p.result in
    let is = port_at _ system.ports p port c.as_slice.ensures c.index-as_slice-p.is (port_there c.args.order.now c.requires.gathered c.requires.within d) in
    let placed = place_of system c.requires.sound p port is in
    let way = subst (λ (x : Way). IsWay system rules w p values x) c.in-Wait.is (c.requires.way d) in
    let sent = way.2 port placed.component is placed.is.of in
    λ before olds gathers. (
      waits_too system c.requires.sound rules before (port_numbers order) olds k w values (map (λ s. instance_in g.L.Peer.view s) c.args.slots.now) gathers p (number_at order order k d refl c.requires.within)
          port is placed.component placed.is.of c.in-Wait.call sent.1 way.0 way.1 sent.0 c.push.new.self c.push.ensures.ports c.push.ensures.count c.push.ensures.inputs c.push.ensures.passed c.push.ensures.first
          (c.push.ensures.component ∙ ap (λ (x : Port). x.component) (sym c.index-as_slice-p.is)) c.push.ensures.kind,
      keeps_all system (port_numbers order) k (k + 1) w c.push.new.self values _ _,
    )

pub value_of-value-requires-clause-port : goal.value_of-value-requires-clause-port
value_of-value-requires-clause-port g c = let d : PortId = record { 0 = 0 } in port_there c.args.order.now c.requires.gathered c.requires.within d

pub put-requires : goal.put-requires
put-requires g c =
    let d : PortId = record { 0 = 0 } in
    subst (λ n. (get_or c.args.order.now c.args.k d).0 < n) (sym c.requires.gathered.2.places) (port_there c.args.order.now c.requires.gathered c.requires.within d)

pub returns-in-Quiet-clause-moves : goal.returns-in-Quiet-clause-moves
returns-in-Quiet-clause-moves g c =
    let system = c.args.system.now in
    let rules = g.T.Turns.rules c.args.turns.now system in
    let order = c.args.order.now in
    let k = c.args.k in
    let w = c.args.waiting.now in
    let values = c.args.values.now in
    let is = map (λ s. instance_in g.L.Peer.view s) c.args.slots.now in
    let d : PortId = record { 0 = 0 } in
    let p = (get_or order k d).0 in
    let lt = port_there c.args.order.now c.requires.gathered c.requires.within d in
    let port = got system.ports p lt in
    let placed = place_of system c.requires.sound p port.0 port.1 in
    let way = subst (λ (x : Way). IsWay system rules w p values x) c.in-Quiet.is (c.requires.way d) in
    let v = value_by system rules values p None c.value_of-value.result c.at.result lt c.at.ensures c.value_of-value.ensures in
    λ before olds gathers. subst (λ (V : List (Option ℤ)). Gathers system rules before (port_numbers order) olds (k + 1) w V is × KeepsOthers system (port_numbers order) (place k w values is) (place (k + 1) w V is)) (sym c.put.ensures) (
      subst (λ (x : Option ℤ). Gathers system rules before (port_numbers order) olds (k + 1) w (slice_set values p x) is) (sym v)
          (quiet system c.requires.sound rules before (port_numbers order) olds k w values is gathers p (number_at order order k d refl c.requires.within) port.0 port.1 placed.component placed.is.of way.0
          (way.1 port.0 placed.component port.1 placed.is.of)),
      keeps_but system (port_numbers order) gathers.ordered k p (number_at order order k d refl c.requires.within) w w values c.value_of-value.result is is,
    )

pub take-requires-clause-port : goal.take-requires-clause-port
take-requires-clause-port g c κs lives = let d : PortId = record { 0 = 0 } in port_there c.args.order.now c.requires.gathered c.requires.within d

pub take-requires-clause-there : goal.take-requires-clause-there
take-requires-clause-there g c κs lives = components_there c.args.system.now c.requires.sound

pub take-requires-clause-call : goal.take-requires-clause-call
take-requires-clause-call g c κs lives =
    let system = c.args.system.now in
    let rules = g.T.Turns.rules c.args.turns.now system in
    let d : PortId = record { 0 = 0 } in
    let p = (get_or c.args.order.now c.args.k d).0 in
    let way = subst (λ (x : Way). IsWay system rules c.args.waiting.now p c.args.values.now x) c.in-Ask.is (c.requires.way d) in
    λ x y x_is of. sym (way.1 x y x_is of)

pub take-requires-clause-may : goal.take-requires-clause-may
take-requires-clause-may g c κs lives =
    let system = c.args.system.now in
    let rules = g.T.Turns.rules c.args.turns.now system in
    let order = c.args.order.now in
    let k = c.args.k in
    let w = c.args.waiting.now in
    let values = c.args.values.now in
    let so = c.requires.gathered in
    let d : PortId = record { 0 = 0 } in
    let p = (get_or order k d).0 in
    let way = subst (λ (x : Way). IsWay system rules w p values x) c.in-Ask.is (c.requires.way d) in
    may_now system rules so.0 (port_numbers order) so.1 k w values (map (λ s. instance_in g.L.Peer.view s) c.args.slots.now) so.2 p (number_at order order k d refl c.requires.within) way.0

pub returns-in-Ask-clause-moves : goal.returns-in-Ask-clause-moves
returns-in-Ask-clause-moves g c =
    let system = c.args.system.now in
    let rules = g.T.Turns.rules c.args.turns.now system in
    let order = c.args.order.now in
    let k = c.args.k in
    let w = c.args.waiting.now in
    let values = c.args.values.now in
    let d : PortId = record { 0 = 0 } in
    let p = (get_or order k d).0 in
    let way = subst (λ (x : Way). IsWay system rules w p values x) c.in-Ask.is (c.requires.way d) in
    moves_asked system rules (port_numbers order) k w values (map (λ s. instance_in g.L.Peer.view s) c.args.slots.now) p (number_at order order k d refl c.requires.within) way.0
    c.take.new.values (map (λ s. instance_in g.L.Peer.view s) c.take.new.slots) (or_bad c.take.result c.take.new.bad) c.take.ensures.turn
