use Rattle.std.proofs.Common.{sym, ◌∙◌, arith, map}
use Rattle.std.proofs.lemmas.Option.{slice_get_within}
use Rattle.fmu_peer.specs.CloseAll.{instance_in}
use Rattle.system_model.proofs.CallerLemmas.{place_of}
use Rattle.event_iteration.proofs.Answering.{may_after}
use Rattle.event_iteration.proofs.Rearming.{asks_badly, asks_nothing, asks_well}
use Rattle.event_iteration.proofs.Taking.{port_at, slots_many}
use Rattle.event_iteration.proofs.intervals.ask_interval.Goals as goal

pub returns-then-not-is_asked_after-clause-asks : goal.returns-then-not-is_asked_after-clause-asks
returns-then-not-is_asked_after-clause-asks g c =
    let system = c.args.system.now in
    let port = c.index-as_slice-p.result in
    let is = port_at _ system.ports c.args.p port c.as_slice.ensures c.index-as_slice-p.is c.requires.port in
    asks_nothing system c.requires.sound c.args.p port is (map (λ s. instance_in g.L.Peer.view s) c.args.slots.now) c.args.value (sym c.is_asked_after.ensures ∙ c.if-not-is_asked_after.true)

pub ask-requires-clause-within : goal.ask-requires-clause-within
ask-requires-clause-within g c κs lives =
    let system = c.args.system.now in
    let port = c.index-as_slice-p.result in
    let is = port_at _ system.ports c.args.p port c.as_slice.ensures c.index-as_slice-p.is c.requires.port in
    let placed = place_of system c.requires.sound c.args.p port is in
    let w = slice_get_within system.components port.component.0 placed.component placed.is.of in
    let m = slots_many (λ s. instance_in g.L.Peer.view s) system c.args.slots.now c.requires.shapes in
    omega (arith, m, w)

pub ask-requires-clause-may : goal.ask-requires-clause-may
ask-requires-clause-may g c κs lives =
    let system = c.args.system.now in
    let port = c.index-as_slice-p.result in
    let is = port_at _ system.ports c.args.p port c.as_slice.ensures c.index-as_slice-p.is c.requires.port in
    may_after system c.requires.sound c.args.p port is (map (λ s. instance_in g.L.Peer.view s) c.args.slots.now) c.requires.shapes
    c.args.value (sym c.is_asked_after.ensures ∙ c.if-not-is_asked_after.false) c.requires.running c.requires.active

pub returns-in-Ok-clause-asks : goal.returns-in-Ok-clause-asks
returns-in-Ok-clause-asks g c =
    let system = c.args.system.now in
    let port = c.index-as_slice-p.result in
    let is = port_at _ system.ports c.args.p port c.as_slice.ensures c.index-as_slice-p.is c.requires.port in
    asks_well system c.requires.sound c.args.p port is (map (λ s. instance_in g.L.Peer.view s) c.args.slots.now) (map (λ s. instance_in g.L.Peer.view s) c.ask.new.slots) c.requires.shapes
    c.args.value (sym c.is_asked_after.ensures ∙ c.if-not-is_asked_after.false) c.in-Ok.reply c.in-Ok.ensures.stage

pub returns-in-Err-clause-asks : goal.returns-in-Err-clause-asks
returns-in-Err-clause-asks g c =
    let system = c.args.system.now in
    let port = c.index-as_slice-p.result in
    let is = port_at _ system.ports c.args.p port c.as_slice.ensures c.index-as_slice-p.is c.requires.port in
    asks_badly system c.requires.sound c.args.p port is (map (λ s. instance_in g.L.Peer.view s) c.args.slots.now) (map (λ s. instance_in g.L.Peer.view s) c.ask.new.slots) c.requires.shapes
    c.args.value (sym c.is_asked_after.ensures ∙ c.if-not-is_asked_after.false) c.in-Err.bad c.in-Err.ensures.stage
