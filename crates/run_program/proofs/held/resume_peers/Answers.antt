use Rattle.std.proofs.Common.{◌≡◌, ◌<◌, ℕ, List, arith, length, map, refl, sym, ap, subst, ◌∙◌}
use Rattle.std.proofs.lemmas.List.{length-map}
use Rattle.fmu_peer.specs.Start.{SpawnerView}
use Rattle.command_line.specs.Line.{resume_of}
use Rattle.command_line.specs.declared.words.ResumeOptions.{ResumeOptions}
use Rattle.system_checkpoint.specs.declared.snapshot.Snapshot.{Snapshot}
use Rattle.system_model.specs.declared.bound.Bound.{Bound}
use Rattle.system_model.specs.declared.system.Component.{Component}
use Rattle.step_master.specs.Sessions.{FailedStart, ResumedSession}
use Rattle.step_master.specs.Master.{FailsToPrepare}
use Rattle.step_master.specs.declared.prepare_end.PrepareFault.{PrepareFault}
use Rattle.step_master.specs.Standing.{standing}
use Rattle.calling_sequence.specs.declared.run_end.RunEnd.TheVariants as E
use Rattle.run_program.specs.declared.outcome.Outcome.{Outcome}
use Rattle.run_program.specs.Happened.{scene}
use Rattle.run_program.specs.Held.{BrokeOff, RestFacts, WentBack, rest_plan}
use Rattle.run_program.specs.Peers.{with_all_retired, with_all_started}
use Rattle.run_program.specs.Runs.{IsEndOf, Names, NamesOne, RunsPeers, Task}
use Rattle.run_program.proofs.RestRuns.{plan_with, rest_holdable, rest_is_plan, rest_plan_of, rest_session}
use Rattle.run_program.proofs.Running.{account_of, fails, given_back, goes_on_so, new_peers, rest_names, rest_news, unmade_names}
use Rattle.run_program.proofs.held.resume_peers.Goals as goal

abbrev task_with : ResumeOptions → Snapshot → Bound → List (List ℕ) → Task
task_with options held bound folders = record { plan = rest_plan (resume_of options) held; host = options.host.now; bound = bound; folders = folders }

pub resume-requires-clause-peers : goal.resume-requires-clause-peers
resume-requires-clause-peers g c κs within =
    new_peers c.args.options.host.now c.args.folders.now c.args.system (map g.S.Link.Peer.view c.args.started.peers.items) c.requires.started
    (length-map c.args.started.peers.items g.S.Link.Peer.view ∙ c.requires.each)

pub resume-requires-clause-plan : goal.resume-requires-clause-plan
resume-requires-clause-plan g c κs within = rest_is_plan c.args.system c.args.held c.args.options.workers c.args.options.link c.requires.kept

pub resume-requires-clause-plan_of : goal.resume-requires-clause-plan_of
resume-requires-clause-plan_of g c κs within = rest_plan_of c.args.system c.args.held c.args.options.workers c.args.options.link

pub resume-requires-clause-holdable : goal.resume-requires-clause-holdable
resume-requires-clause-holdable g c κs within = rest_holdable c.args.system c.args.held c.args.options.workers c.args.options.link c.requires.holdable

pub finish-requires-clause-fewer : goal.finish-requires-clause-fewer
finish-requires-clause-fewer g c κs within =
    let view = g.S.Link.Peer.view in
    let system = c.args.system in
    let held = c.args.held in
    let olds = map view c.args.started.peers.items in
    let news = map view c.close.result.items in
    let plan = plan_with held c.args.options.workers c.args.options.link in
    let before_it = g.O.Sink.view c.args.out.now in
    let after_it = g.O.Sink.view c.run-end.new.out in
    let peers = new_peers c.args.options.host.now c.args.folders.now system olds c.requires.started (length-map c.args.started.peers.items view ∙ c.requires.each) in
    let account = account_of system c.in-Ok.master.experiment.bound plan olds news before_it after_it (standing view c.run-end.new.self) c.run-end.result in
    let session : ResumedSession account held =
    rest_session view c.histories_of_peers.ensures.rest c.in-Ok.master c.run-end.new.self system held c.args.options.workers c.args.options.link olds news before_it after_it c.run-end.result
    c.requires.runnable.sound c.requires.counts peers c.requires.kept c.requires.holdable c.in-Ok.ensures.ready c.in-Ok.ensures.ok c.run-end.ensures c.close.ensures in
    let same : length c.close.result.items ≡ length c.args.started.peers.items = sym (length-map c.close.result.items view) ∙ rest_news account held session ∙ sym c.requires.each in
    let room = c.requires.fewer in
    omega (arith, same, room)

pub finish-requires-clause-named : goal.finish-requires-clause-named
finish-requires-clause-named g c κs within =
    let view = g.S.Link.Peer.view in
    let system = c.args.system in
    let held = c.args.held in
    let olds = map view c.args.started.peers.items in
    let news = map view c.close.result.items in
    let plan = plan_with held c.args.options.workers c.args.options.link in
    let before_it = g.O.Sink.view c.args.out.now in
    let after_it = g.O.Sink.view c.run-end.new.out in
    let peers = new_peers c.args.options.host.now c.args.folders.now system olds c.requires.started (length-map c.args.started.peers.items view ∙ c.requires.each) in
    let account = account_of system c.in-Ok.master.experiment.bound plan olds news before_it after_it (standing view c.run-end.new.self) c.run-end.result in
    let session : ResumedSession account held =
    rest_session view c.histories_of_peers.ensures.rest c.in-Ok.master c.run-end.new.self system held c.args.options.workers c.args.options.link olds news before_it after_it c.run-end.result
    c.requires.runnable.sound c.requires.counts peers c.requires.kept c.requires.holdable c.in-Ok.ensures.ready c.in-Ok.ensures.ok c.run-end.ensures c.close.ensures in
    subst (λ (n : Names). NamesOne n c.run-end.result) (sym c.requires.names) (rest_names account held c.requires.runnable.sound session)

pub retire_each-requires-after_bounds : goal.retire_each-requires-after_bounds
retire_each-requires-after_bounds g c κs within =
    let view = g.S.Link.Peer.view in
    let system = c.args.system in
    let olds = map view c.args.started.peers.items in
    let news = map view c.in-Err.field-0.peers.items in
    let peers = new_peers c.args.options.host.now c.args.folders.now system olds c.requires.started (length-map c.args.started.peers.items view ∙ c.requires.each) in
    let same : length c.in-Err.field-0.peers.items ≡ length c.args.started.peers.items =
    sym (length-map c.in-Err.field-0.peers.items view) ∙ given_back system c.args.options.link olds news c.in-Err.field-0.fault c.requires.runnable.sound peers c.histories_of_peers.ensures.unmade c.in-Err.ensures.err
    ∙ length-map c.args.started.peers.items view in
    let room = c.requires.fewer in
    omega (arith, same, room)

pub report_end-requires : goal.report_end-requires
report_end-requires g c =
    let view = g.S.Link.Peer.view in
    let system = c.args.system in
    let olds = map view c.args.started.peers.items in
    let news = map view c.in-Err.field-0.peers.items in
    let peers = new_peers c.args.options.host.now c.args.folders.now system olds c.requires.started (length-map c.args.started.peers.items view ∙ c.requires.each) in
    let unmade : FailedStart system c.args.options.link olds c.in-Bad.bad news =
    c.histories_of_peers.ensures.unmade system c.args.options.link olds news c.in-Bad.bad c.requires.runnable.sound peers (subst (λ (f : PrepareFault). FailsToPrepare system c.args.options.link olds f news) c.in-Bad.is c.in-Err.ensures.err) in
    subst (λ (n : ℕ). c.in-Bad.bad.component.0 < n) (sym (ap (λ (n : Names). length n.components) c.requires.names ∙ length-map system.components (λ (x : Component). x.name))) (unmade_names system c.args.options.link olds news c.in-Bad.bad unmade)

pub returns-in-Ok : goal.returns-in-Ok
returns-in-Ok g c before bound binds known made told =
    let view = g.S.Link.Peer.view in
    let system = c.args.system in
    let held = c.args.held in
    let olds = map view c.args.started.peers.items in
    let news = map view c.close.result.items in
    let plan = plan_with held c.args.options.workers c.args.options.link in
    let before_it = g.O.Sink.view c.args.out.now in
    let after_it = g.O.Sink.view c.run-end.new.out in
    let peers = new_peers c.args.options.host.now c.args.folders.now system olds c.requires.started (length-map c.args.started.peers.items view ∙ c.requires.each) in
    let account = account_of system c.in-Ok.master.experiment.bound plan olds news before_it after_it (standing view c.run-end.new.self) c.run-end.result in
    let session : ResumedSession account held =
    rest_session view c.histories_of_peers.ensures.rest c.in-Ok.master c.run-end.new.self system held c.args.options.workers c.args.options.link olds news before_it after_it c.run-end.result
    c.requires.runnable.sound c.requires.counts peers c.requires.kept c.requires.holdable c.in-Ok.ensures.ready c.in-Ok.ensures.ok c.run-end.ensures c.close.ensures in
    let task = task_with c.args.options held bound c.args.folders.now in
    let old = scene before before_it in
    let new = scene (g.S.Spawner.view c.finish.new.spawner) after_it in
    let runs : RunsPeers task system olds news before (g.S.Spawner.view c.finish.new.spawner) = record {
      known = known;
      each = length-map c.args.started.peers.items view ∙ c.requires.each;
      are = c.requires.started;
      made = made;
      told = c.finish.ensures.retired ∙ ap (λ (s : SpawnerView). with_all_retired s news) (told ∙ ap (with_all_started before) (sym (length-map c.args.started.peers.items view)));
    } in
    let ended = c.finish.ensures.report in
    subst (λ (o : Outcome). RestFacts o task system held old new) (sym ended.1) (
      c.run-end.result,
      subst (λ (names : Names). IsEndOf names c.run-end.result ended.0) c.requires.names ended.2,
      WentBack (goes_on_so account held task old new c.requires.runnable binds (rest_is_plan system held c.args.options.workers c.args.options.link c.requires.kept)
          (rest_holdable system held c.args.options.workers c.args.options.link c.requires.holdable) (rest_plan_of system held c.args.options.workers c.args.options.link) refl refl refl runs session
          c.histories_of_peers.ensures.over c.runs_of_machines.ensures.rest c.runs_of_machines.ensures.rest_well),
    )

pub returns-in-Bad : goal.returns-in-Bad
returns-in-Bad g c before bound binds known made told =
    let view = g.S.Link.Peer.view in
    let system = c.args.system in
    let olds = map view c.args.started.peers.items in
    let news = map view c.in-Err.field-0.peers.items in
    let peers = new_peers c.args.options.host.now c.args.folders.now system olds c.requires.started (length-map c.args.started.peers.items view ∙ c.requires.each) in
    let task = task_with c.args.options c.args.held bound c.args.folders.now in
    let unmade : FailedStart system c.args.options.link olds c.in-Bad.bad news =
    c.histories_of_peers.ensures.unmade system c.args.options.link olds news c.in-Bad.bad c.requires.runnable.sound peers (subst (λ (f : PrepareFault). FailsToPrepare system c.args.options.link olds f news) c.in-Bad.is c.in-Err.ensures.err) in
    let out = g.O.Sink.view c.args.out.now in
    let old = scene before out in
    let new = scene (g.S.Spawner.view c.retire_each.new.spawner) out in
    let runs : RunsPeers task system olds news before (g.S.Spawner.view c.retire_each.new.spawner) = record {
      known = known;
      each = length-map c.args.started.peers.items view ∙ c.requires.each;
      are = c.requires.started;
      made = made;
      told = c.retire_each.ensures ∙ ap (λ (s : SpawnerView). with_all_retired s news) (told ∙ ap (with_all_started before) (sym (length-map c.args.started.peers.items view)));
    } in
    let ended = c.report_end.ensures in
    subst (λ (o : Outcome). RestFacts o task system c.args.held old new) (sym ended.1) (
      E.Bad c.in-Bad.bad,
      subst (λ (names : Names). IsEndOf names (E.Bad c.in-Bad.bad) ended.0) c.requires.names ended.2,
      BrokeOff c.in-Bad.bad refl (fails task system c.in-Bad.bad olds news old new c.requires.runnable runs unmade refl c.histories_of_peers.ensures.over c.runs_of_machines.ensures.unmade),
    )
