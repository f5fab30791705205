use Rattle.std.proofs.Common.{map, refl, ◌∙◌}
use Rattle.std.specs.Prelude.{Err, Ok}
use Rattle.fmu_peer.specs.CloseAll.{Instance, instance_in}
use Rattle.system_model.specs.Ports.{port_numbers}
use Rattle.event_iteration.specs.Clocks.{is_due_at}
use Rattle.event_iteration.specs.Instants.{BeginsInstant, in_instant}
use Rattle.event_iteration.proofs.ByWalk.{walks_in_instant}
use Rattle.event_iteration.proofs.ClockTicks.{are_ticks}
use Rattle.event_iteration.proofs.FindingInInstant.{solves_in_instant, tells_ticks}
use Rattle.event_iteration.proofs.InInstant.{active_at_end}
use Rattle.event_iteration.proofs.LeftOut.{unfed_after}
use Rattle.event_iteration.proofs.Rounds.{all_instances}
use Rattle.event_iteration.proofs.Walking.{walked_length}
use Rattle.event_iteration.proofs.instants.instant.Goals as goal

pub returns-in-Some-clause-walks : goal.returns-in-Some-clause-walks
returns-in-Some-clause-walks g c =
    let system = c.args.system.now in
    let ticks = is_due_at c.args.schedule.now c.args.t in
    let olds = map (λ s. instance_in g.L.Peer.view s) c.args.slots.now in
    let begins = all_instances (λ s. instance_in g.L.Peer.view s) (λ (x : Instance). BeginsInstant x.view) c.args.slots.now c.requires.begins in
    walks_in_instant system c.requires.sound olds c.requires.shapes ticks c.args.is_first c.args.values.now c.requires.values c.walk_participants.new.values (map (λ s. instance_in g.L.Peer.view s) c.walk_participants.new.slots) (Ok tt)
    c.in-Some.ensures.goes

pub returns-in-None-clause-walks : goal.returns-in-None-clause-walks
returns-in-None-clause-walks g c =
    let system = c.args.system.now in
    let ticks = is_due_at c.args.schedule.now c.args.t in
    let olds = map (λ s. instance_in g.L.Peer.view s) c.args.slots.now in
    let begins = all_instances (λ s. instance_in g.L.Peer.view s) (λ (x : Instance). BeginsInstant x.view) c.args.slots.now c.requires.begins in
    walks_in_instant system c.requires.sound olds c.requires.shapes ticks c.args.is_first c.args.values.now c.requires.values c.walk_participants.new.values (map (λ s. instance_in g.L.Peer.view s) c.walk_participants.new.slots) (Err c.walk_participants.new.bad)
    c.in-None.ensures.goes

pub returns-in-Some-clause-solved : goal.returns-in-Some-clause-solved
returns-in-Some-clause-solved g c =
    let system = c.args.system.now in
    let ticks = is_due_at c.args.schedule.now c.args.t in
    let olds = map (λ s. instance_in g.L.Peer.view s) c.args.slots.now in
    let begins = all_instances (λ s. instance_in g.L.Peer.view s) (λ (x : Instance). BeginsInstant x.view) c.args.slots.now c.requires.begins in
    let goes = c.in-Some.ensures.goes in
    solves_in_instant system c.requires.sound c.args.t c.args.is_first c.args.schedule.now c.requires.stands olds (map (λ s. instance_in g.L.Peer.view s) c.walk_participants.new.slots) c.args.values.now c.walk_participants.new.values goes.0 goes.1
    goes.2

pub returns-in-Some-clause-ticks : goal.returns-in-Some-clause-ticks
returns-in-Some-clause-ticks g c =
    let system = c.args.system.now in
    let ticks = is_due_at c.args.schedule.now c.args.t in
    let olds = map (λ s. instance_in g.L.Peer.view s) c.args.slots.now in
    let begins = all_instances (λ s. instance_in g.L.Peer.view s) (λ (x : Instance). BeginsInstant x.view) c.args.slots.now c.requires.begins in
    let walks = walks_in_instant system c.requires.sound olds c.requires.shapes ticks c.args.is_first c.args.values.now c.requires.values c.walk_participants.new.values (map (λ s. instance_in g.L.Peer.view s) c.walk_participants.new.slots) (Ok tt)
    c.in-Some.ensures.goes in
    tells_ticks system c.requires.sound c.args.t c.args.is_first c.args.schedule.now c.args.values.now c.walk_participants.new.values walks.log walks.says

pub returns-in-Some-clause-active : goal.returns-in-Some-clause-active
returns-in-Some-clause-active g c =
    let system = c.args.system.now in
    let ticks = is_due_at c.args.schedule.now c.args.t in
    let olds = map (λ s. instance_in g.L.Peer.view s) c.args.slots.now in
    let begins = all_instances (λ s. instance_in g.L.Peer.view s) (λ (x : Instance). BeginsInstant x.view) c.args.slots.now c.requires.begins in
    let goes = c.in-Some.ensures.goes in
    active_at_end system c.requires.sound ticks c.args.is_first c.args.values.now c.requires.values c.requires.fitting olds (map (λ s. instance_in g.L.Peer.view s) c.walk_participants.new.slots) c.requires.shapes begins (port_numbers system.instant_order) c.walk_participants.new.values goes.0 goes.1
    goes.2 refl

pub returns-in-Some-clause-due : goal.returns-in-Some-clause-due
returns-in-Some-clause-due g c = are_ticks c.args.system.now c.args.t c.args.is_first c.args.schedule.now c.requires.stands

pub returns-in-None-clause-due : goal.returns-in-None-clause-due
returns-in-None-clause-due g c = are_ticks c.args.system.now c.args.t c.args.is_first c.args.schedule.now c.requires.stands

pub returns-in-Some-clause-awaited : goal.returns-in-Some-clause-awaited
returns-in-Some-clause-awaited g c =
    let system = c.args.system.now in
    let ticks = is_due_at c.args.schedule.now c.args.t in
    let olds = map (λ s. instance_in g.L.Peer.view s) c.args.slots.now in
    let walks = walks_in_instant system c.requires.sound olds c.requires.shapes ticks c.args.is_first c.args.values.now c.requires.values c.walk_participants.new.values (map (λ s. instance_in g.L.Peer.view s) c.walk_participants.new.slots) (Ok tt) c.in-Some.ensures.goes in
    unfed_after system c.requires.sound ticks c.args.is_first c.args.values.now c.walk_participants.new.values walks.log c.walk_participants.new.pending walks.says

pub returns-in-Some-clause-values : goal.returns-in-Some-clause-values
returns-in-Some-clause-values g c =
    let system = c.args.system.now in
    let goes = c.in-Some.ensures.goes in
    walked_length system (in_instant (is_due_at c.args.schedule.now c.args.t) c.args.is_first) c.args.values.now (port_numbers system.instant_order) c.walk_participants.new.values goes.0 goes.2 ∙ c.requires.values
