use Rattle.std.proofs.Common.{◌≡◌, length, refl}
use Rattle.std.proofs.lemmas.Result.{on_ok_weaker}
use Rattle.system_model.specs.Ports.{port_numbers}
use Rattle.event_iteration.specs.Initialization.{initially, no_values}
use Rattle.calling_sequence.specs.Course.{Entered, Finds}
use Rattle.calling_sequence.specs.Place.{IsInitializing}
use Rattle.calling_sequence.proofs.Phases.{finding_keeps}
use Rattle.calling_sequence.proofs.Stages.{by_walk, keeping_walk}
use Rattle.calling_sequence.proofs.Walks.{IsGetOrSet, finding_goodly}
use Rattle.calling_sequence.proofs.initialization.find.Goals as goal

pub initialize-requires-clause-initializing : goal.initialize-requires-clause-initializing
initialize-requires-clause-initializing g c κs lives = λ k d w. (c.requires.ready.stand k d w).state

pub returns-clause-ready : goal.returns-clause-ready
returns-clause-ready g c =
    let e = c.args.experiment.now in
    let w = c.initialize.ensures in
    keeping_walk g.L.Peer.view e (λ stop step. IsInitializing e.plan.start stop) c.args.slots.now _ c.requires.ready (λ shape. IsGetOrSet) (finding_keeps e.plan.start e.plan.stop) (initially e.system) (no_values e.system) (port_numbers e.system.initial_order) _
    (λ log. finding_goodly e.system (no_values e.system) (port_numbers e.system.initial_order) _ log) c.initialize.result w.walks w.live

pub returns-clause-fresh : goal.returns-clause-fresh
returns-clause-fresh g c =
    let e = c.args.experiment.now in
    let fresh = c.requires.fresh in
    on_ok_weaker c.initialize.result
    (λ (places : length c.initialize.new.values ≡ length e.system.ports). record { reads_are = fresh.reads_are; know = record { participants = fresh.know.participants; room = fresh.know.room }; clocks = fresh.clocks; places = places; holds = fresh.holds; none = fresh.none })
    c.initialize.ensures.values

pub returns-clause-goes : goal.returns-clause-goes
returns-clause-goes g c =
    let e = c.args.experiment.now in
    let rules = initially e.system in
    let order = port_numbers e.system.initial_order in
    by_walk e Entered _ refl (λ extent. tt) _ _ _ rules (no_values e.system) order _ refl (λ log. Finds _ log) c.initialize.result c.initialize.ensures.walks
