use Rattle.std.proofs.Common.{◌∙◌, ℤ, List, Option, ap, length, map, subst, sym}
use Rattle.std.specs.Prelude.{Err, Ok}
use Rattle.sim_base.specs.declared.numbers.PortId.{PortId}
use Rattle.fmu_peer.specs.CloseAll.{Instance, instance_in}
use Rattle.system_model.specs.Ports.{port_numbers}
use Rattle.run_model.specs.Machines.{AreFitting}
use Rattle.event_iteration.specs.Initialization.{IsInInitialization, initially, no_values}
use Rattle.event_iteration.specs.Waits.{MayWalk, StandsAfterReads, WalkOutcome}
use Rattle.event_iteration.proofs.ByWalk.{may_walk_initially, walks_initially}
use Rattle.event_iteration.proofs.Finding.{solves_for_machines}
use Rattle.event_iteration.proofs.Rounds.{all_instances, fits_none, places_none}
use Rattle.event_iteration.proofs.WalkNeeds.{after_initially, turns_initially}
use Rattle.event_iteration.proofs.Walking.{walked_length}
use Rattle.event_iteration.proofs.initialization.walk_all.Goals as goal

pub walk-requires-clause-values : goal.walk-requires-clause-values
walk-requires-clause-values g c κs lives = ap length c.requires.none ∙ places_none c.args.system.now

pub walk-requires-clause-fitting : goal.walk-requires-clause-fitting
walk-requires-clause-fitting g c κs lives = subst (AreFitting c.args.system.now) (sym c.requires.none) (fits_none c.args.system.now)

pub walk-requires-clause-local : goal.walk-requires-clause-local
walk-requires-clause-local g c κs lives = turns_initially c.args.system.now c.requires.sound

pub walk-requires-clause-order : goal.walk-requires-clause-order
walk-requires-clause-order g c κs lives = subst (λ (xs : List PortId). StandsAfterReads c.args.system.now (port_numbers xs)) (sym c.as_slice.ensures) (after_initially c.args.system.now c.requires.sound)

pub walk-requires-clause-may : goal.walk-requires-clause-may
walk-requires-clause-may g c κs lives =
    let system = c.args.system.now in
    let olds = map (λ s. instance_in g.L.Peer.view s) c.args.slots.now in
    let none = no_values system in
    subst (λ (V : List (Option ℤ)). MayWalk system (initially system) V (port_numbers c.as_slice.result.now) olds) (sym c.requires.none)
    (subst (λ (xs : List PortId). MayWalk system (initially system) none (port_numbers xs) olds) (sym c.as_slice.ensures)
    (may_walk_initially system c.requires.sound olds c.requires.shapes (all_instances (λ s. instance_in g.L.Peer.view s) (λ (x : Instance). IsInInitialization x.view) c.args.slots.now c.requires.initializing)))

pub returns-in-Ok-clause-walks : goal.returns-in-Ok-clause-walks
returns-in-Ok-clause-walks g c =
    let system = c.args.system.now in
    let olds = map (λ s. instance_in g.L.Peer.view s) c.args.slots.now in
    let none = no_values system in
    walks_initially system c.requires.sound olds c.requires.shapes c.walk.new.values (map (λ s. instance_in g.L.Peer.view s) c.walk.new.slots) (Ok tt) (subst (λ (V : List (Option ℤ)). WalkOutcome system (initially system) V (port_numbers system.initial_order) c.walk.new.values olds (map (λ s. instance_in g.L.Peer.view s) c.walk.new.slots) (Ok tt)) c.requires.none
    (subst (λ (xs : List PortId). WalkOutcome system (initially system) c.args.values.now (port_numbers xs) c.walk.new.values olds (map (λ s. instance_in g.L.Peer.view s) c.walk.new.slots) (Ok tt)) c.as_slice.ensures c.in-Ok.ensures.goes))

pub returns-in-Err-clause-walks : goal.returns-in-Err-clause-walks
returns-in-Err-clause-walks g c =
    let system = c.args.system.now in
    let olds = map (λ s. instance_in g.L.Peer.view s) c.args.slots.now in
    let none = no_values system in
    walks_initially system c.requires.sound olds c.requires.shapes c.walk.new.values (map (λ s. instance_in g.L.Peer.view s) c.walk.new.slots) (Err c.in-Err.bad) (subst (λ (V : List (Option ℤ)). WalkOutcome system (initially system) V (port_numbers system.initial_order) c.walk.new.values olds (map (λ s. instance_in g.L.Peer.view s) c.walk.new.slots) (Err c.in-Err.bad)) c.requires.none
    (subst (λ (xs : List PortId). WalkOutcome system (initially system) c.args.values.now (port_numbers xs) c.walk.new.values olds (map (λ s. instance_in g.L.Peer.view s) c.walk.new.slots) (Err c.in-Err.bad)) c.as_slice.ensures c.in-Err.ensures.goes))

pub returns-in-Ok-clause-solved : goal.returns-in-Ok-clause-solved
returns-in-Ok-clause-solved g c =
    let system = c.args.system.now in
    let olds = map (λ s. instance_in g.L.Peer.view s) c.args.slots.now in
    let none = no_values system in
    let goes = subst (λ (V : List (Option ℤ)). WalkOutcome system (initially system) V (port_numbers system.initial_order) c.walk.new.values olds (map (λ s. instance_in g.L.Peer.view s) c.walk.new.slots) (Ok tt)) c.requires.none
    (subst (λ (xs : List PortId). WalkOutcome system (initially system) c.args.values.now (port_numbers xs) c.walk.new.values olds (map (λ s. instance_in g.L.Peer.view s) c.walk.new.slots) (Ok tt)) c.as_slice.ensures c.in-Ok.ensures.goes) in
    solves_for_machines system c.requires.sound olds (map (λ s. instance_in g.L.Peer.view s) c.walk.new.slots) c.walk.new.values goes.0 goes.1 goes.2

pub returns-in-Ok-clause-values : goal.returns-in-Ok-clause-values
returns-in-Ok-clause-values g c =
    let system = c.args.system.now in
    let goes = c.in-Ok.ensures.goes in
    walked_length system (initially system) c.args.values.now (port_numbers c.as_slice.result.now) c.walk.new.values goes.0 goes.2 ∙ ap length c.requires.none ∙ places_none system
