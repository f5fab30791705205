use Rattle.std.proofs.Common.{◌≡◌, ◌<◌, ℕ, List, arith, length, map, refl, sym, ap, subst, ◌∙◌}
use Rattle.std.proofs.lemmas.List.{length-map}
use Rattle.fmu_peer.specs.Start.{SpawnerView}
use Rattle.command_line.specs.declared.words.CheckpointOptions.{CheckpointOptions}
use Rattle.system_model.specs.declared.bound.Bound.{Bound}
use Rattle.system_model.specs.declared.system.Component.{Component}
use Rattle.step_master.specs.Sessions.{FailedStart, HeldSession}
use Rattle.step_master.specs.Master.{FailsToPrepare}
use Rattle.step_master.specs.declared.prepare_end.PrepareFault.{PrepareFault}
use Rattle.step_master.specs.Standing.{standing}
use Rattle.calling_sequence.specs.declared.run_end.RunEnd.TheVariants as E
use Rattle.run_program.specs.declared.outcome.Outcome.{Outcome}
use Rattle.run_program.specs.Happened.{scene}
use Rattle.run_program.specs.Held.{BrokeOff, HoldFacts, WentOn}
use Rattle.run_program.specs.Peers.{with_all_retired, with_all_started}
use Rattle.run_program.specs.Runs.{IsEndOf, Names, NamesOne, RunsPeers, Task}
use Rattle.run_program.proofs.Running.{account_of, fails, given_back, held_names, held_news, holds_so, new_peers, unmade_names}
use Rattle.run_program.proofs.held.hold_peers.Goals as goal

abbrev task_with : CheckpointOptions → Bound → List (List ℕ) → Task
task_with options bound folders = record { plan = options.run.plan; host = options.run.host.now; bound = bound; folders = folders }

pub prepare-requires-clause-peers : goal.prepare-requires-clause-peers
prepare-requires-clause-peers g c κs within =
    new_peers c.args.options.run.host.now c.args.folders.now c.args.system (map g.S.Link.Peer.view c.args.started.peers.items) c.requires.started
    (length-map c.args.started.peers.items g.S.Link.Peer.view ∙ c.requires.each)

pub finish-requires-clause-fewer : goal.finish-requires-clause-fewer
finish-requires-clause-fewer g c κs within =
    let view = g.S.Link.Peer.view in
    let olds = map view c.args.started.peers.items in
    let news = map view c.close.result.items in
    let peers = new_peers c.args.options.run.host.now c.args.folders.now c.args.system olds c.requires.started (length-map c.args.started.peers.items view ∙ c.requires.each) in
    let account = account_of c.args.system c.args.bound c.args.options.run.plan olds news (g.O.Sink.view c.args.out.now) (g.O.Sink.view c.hold-end.new.out) (standing view c.hold-end.new.self) c.hold-end.result in
    let session : HeldSession account c.args.options.at = c.histories_of_peers.ensures.hold account c.args.options.at (standing view c.in-Ok.master) (standing view c.hold-end.new.self) c.requires.runnable.sound c.requires.bound c.requires.counts peers c.requires.holdable c.in-Ok.ensures.ok c.hold-end.ensures c.close.ensures in
    let same : length c.close.result.items ≡ length c.args.started.peers.items = sym (length-map c.close.result.items view) ∙ held_news account c.args.options.at session ∙ sym c.requires.each in
    let room = c.requires.fewer in
    omega (arith, same, room)

pub finish-requires-clause-named : goal.finish-requires-clause-named
finish-requires-clause-named g c κs within =
    let view = g.S.Link.Peer.view in
    let olds = map view c.args.started.peers.items in
    let news = map view c.close.result.items in
    let peers = new_peers c.args.options.run.host.now c.args.folders.now c.args.system olds c.requires.started (length-map c.args.started.peers.items view ∙ c.requires.each) in
    let account = account_of c.args.system c.args.bound c.args.options.run.plan olds news (g.O.Sink.view c.args.out.now) (g.O.Sink.view c.hold-end.new.out) (standing view c.hold-end.new.self) c.hold-end.result in
    let session : HeldSession account c.args.options.at = c.histories_of_peers.ensures.hold account c.args.options.at (standing view c.in-Ok.master) (standing view c.hold-end.new.self) c.requires.runnable.sound c.requires.bound c.requires.counts peers c.requires.holdable c.in-Ok.ensures.ok c.hold-end.ensures c.close.ensures in
    subst (λ (n : Names). NamesOne n c.hold-end.result) (sym c.requires.names) (held_names account c.args.options.at c.requires.runnable.sound session)

pub retire_each-requires-after_bounds : goal.retire_each-requires-after_bounds
retire_each-requires-after_bounds g c κs within =
    let view = g.S.Link.Peer.view in
    let olds = map view c.args.started.peers.items in
    let news = map view c.in-Err.field-0.peers.items in
    let peers = new_peers c.args.options.run.host.now c.args.folders.now c.args.system olds c.requires.started (length-map c.args.started.peers.items view ∙ c.requires.each) in
    let same : length c.in-Err.field-0.peers.items ≡ length c.args.started.peers.items =
    sym (length-map c.in-Err.field-0.peers.items view) ∙ given_back c.args.system c.args.options.run.plan.link olds news c.in-Err.field-0.fault c.requires.runnable.sound peers c.histories_of_peers.ensures.unmade c.in-Err.ensures.err
    ∙ length-map c.args.started.peers.items view in
    let room = c.requires.fewer in
    omega (arith, same, room)

pub report_end-requires : goal.report_end-requires
report_end-requires g c =
    let view = g.S.Link.Peer.view in
    let olds = map view c.args.started.peers.items in
    let news = map view c.in-Err.field-0.peers.items in
    let peers = new_peers c.args.options.run.host.now c.args.folders.now c.args.system olds c.requires.started (length-map c.args.started.peers.items view ∙ c.requires.each) in
    let unmade : FailedStart c.args.system c.args.options.run.plan.link olds c.in-Bad.bad news =
    c.histories_of_peers.ensures.unmade c.args.system c.args.options.run.plan.link olds news c.in-Bad.bad c.requires.runnable.sound peers (subst (λ (f : PrepareFault). FailsToPrepare c.args.system c.args.options.run.plan.link olds f news) c.in-Bad.is c.in-Err.ensures.err) in
    subst (λ (n : ℕ). c.in-Bad.bad.component.0 < n) (sym (ap (λ (n : Names). length n.components) c.requires.names ∙ length-map c.args.system.components (λ (x : Component). x.name))) (unmade_names c.args.system c.args.options.run.plan.link olds news c.in-Bad.bad unmade)

pub returns-in-Ok : goal.returns-in-Ok
returns-in-Ok g c before known made told =
    let view = g.S.Link.Peer.view in
    let olds = map view c.args.started.peers.items in
    let news = map view c.close.result.items in
    let peers = new_peers c.args.options.run.host.now c.args.folders.now c.args.system olds c.requires.started (length-map c.args.started.peers.items view ∙ c.requires.each) in
    let account = account_of c.args.system c.args.bound c.args.options.run.plan olds news (g.O.Sink.view c.args.out.now) (g.O.Sink.view c.hold-end.new.out) (standing view c.hold-end.new.self) c.hold-end.result in
    let session : HeldSession account c.args.options.at = c.histories_of_peers.ensures.hold account c.args.options.at (standing view c.in-Ok.master) (standing view c.hold-end.new.self) c.requires.runnable.sound c.requires.bound c.requires.counts peers c.requires.holdable c.in-Ok.ensures.ok c.hold-end.ensures c.close.ensures in
    let task = task_with c.args.options c.args.bound c.args.folders.now in
    let old = scene before (g.O.Sink.view c.args.out.now) in
    let new = scene (g.S.Spawner.view c.finish.new.spawner) (g.O.Sink.view c.hold-end.new.out) in
    let runs : RunsPeers task c.args.system olds news before (g.S.Spawner.view c.finish.new.spawner) = record {
      known = known;
      each = length-map c.args.started.peers.items view ∙ c.requires.each;
      are = c.requires.started;
      made = made;
      told = c.finish.ensures.retired ∙ ap (λ (s : SpawnerView). with_all_retired s news) (told ∙ ap (with_all_started before) (sym (length-map c.args.started.peers.items view)));
    } in
    let ended = c.finish.ensures.report in
    subst (λ (o : Outcome). HoldFacts o task c.args.system c.args.options.at old new) (sym ended.1) (
      c.hold-end.result,
      subst (λ (names : Names). IsEndOf names c.hold-end.result ended.0) c.requires.names ended.2,
      WentOn (holds_so account c.args.options.at task old new c.requires.runnable c.requires.bound c.requires.within.0.plan_is c.requires.holdable refl refl refl refl runs session c.histories_of_peers.ensures.over c.runs_of_machines.ensures.held c.runs_of_machines.ensures.none c.runs_of_machines.ensures.held_well),
    )

pub returns-in-Bad : goal.returns-in-Bad
returns-in-Bad g c before known made told =
    let view = g.S.Link.Peer.view in
    let olds = map view c.args.started.peers.items in
    let news = map view c.in-Err.field-0.peers.items in
    let task = task_with c.args.options c.args.bound c.args.folders.now in
    let peers = new_peers c.args.options.run.host.now c.args.folders.now c.args.system olds c.requires.started (length-map c.args.started.peers.items view ∙ c.requires.each) in
    let unmade : FailedStart c.args.system c.args.options.run.plan.link olds c.in-Bad.bad news =
    c.histories_of_peers.ensures.unmade c.args.system c.args.options.run.plan.link olds news c.in-Bad.bad c.requires.runnable.sound peers (subst (λ (f : PrepareFault). FailsToPrepare c.args.system c.args.options.run.plan.link olds f news) c.in-Bad.is c.in-Err.ensures.err) in
    let out = g.O.Sink.view c.args.out.now in
    let old = scene before out in
    let new = scene (g.S.Spawner.view c.retire_each.new.spawner) out in
    let runs : RunsPeers task c.args.system olds news before (g.S.Spawner.view c.retire_each.new.spawner) = record {
      known = known;
      each = length-map c.args.started.peers.items view ∙ c.requires.each;
      are = c.requires.started;
      made = made;
      told = c.retire_each.ensures ∙ ap (λ (s : SpawnerView). with_all_retired s news) (told ∙ ap (with_all_started before) (sym (length-map c.args.started.peers.items view)));
    } in
    let ended = c.report_end.ensures in
    subst (λ (o : Outcome). HoldFacts o task c.args.system c.args.options.at old new) (sym ended.1) (
      E.Bad c.in-Bad.bad,
      subst (λ (names : Names). IsEndOf names (E.Bad c.in-Bad.bad) ended.0) c.requires.names ended.2,
      BrokeOff c.in-Bad.bad refl (fails task c.args.system c.in-Bad.bad olds news old new c.requires.runnable runs unmade refl c.histories_of_peers.ensures.over c.runs_of_machines.ensures.unmade),
    )
