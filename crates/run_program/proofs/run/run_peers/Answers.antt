use Rattle.std.proofs.Common.{◌≡◌, ◌<◌, ◌≤◌, ℕ, List, arith, length, map, refl, sym, ap, subst, ◌∙◌}
use Rattle.std.proofs.lemmas.List.{length-map}
use Rattle.fmu_peer.specs.Start.{SpawnerView}
use Rattle.step_master.specs.Sessions.{FailedStart, Session}
use Rattle.step_master.specs.Master.{FailsToPrepare}
use Rattle.step_master.specs.declared.prepare_end.PrepareFault.{PrepareFault}
use Rattle.calling_sequence.specs.declared.run_end.RunEnd.TheVariants as E
use Rattle.std.specs.Prelude.{Option}
use Rattle.step_master.specs.Holding.{RunsFrom}
use Rattle.step_master.specs.Standing.{standing}
use Rattle.system_checkpoint.specs.declared.snapshot.Snapshot.{Snapshot}
use Rattle.command_line.specs.declared.words.Options.{Options}
use Rattle.system_model.specs.declared.system.Component.{Component}
use Rattle.system_model.specs.declared.bound.Bound.{Bound}
use Rattle.run_program.specs.declared.outcome.Outcome.{Outcome}
use Rattle.run_program.specs.Bench.{RanFacts}
use Rattle.run_program.specs.Happened.{scene}
use Rattle.run_program.specs.Peers.{with_all_retired, with_all_started}
use Rattle.run_program.specs.Runs.{Broke, IsEndOf, Names, NamesOne, RunsPeers, Task, Went}
use Rattle.run_program.proofs.Counting.{are_numbers, no_numbers, numbers_of}
use Rattle.run_program.proofs.Running.{account_of, fails, given_back, goes, new_peers, session_names, session_news, unmade_names}
use Rattle.run_program.proofs.run.run_peers.Goals as goal

abbrev task_with : Options → Bound → List (List ℕ) → Task
task_with options bound folders = record { plan = options.plan; host = options.host.now; bound = bound; folders = folders }

pub prepare-requires-clause-peers : goal.prepare-requires-clause-peers
prepare-requires-clause-peers g c κs within =
    new_peers c.args.options.host.now c.args.folders.now c.args.system (map g.S.Link.Peer.view c.args.peers.items) c.requires.started
    (length-map c.args.peers.items g.S.Link.Peer.view ∙ c.requires.each)

pub retire_each-requires-after_bounds : goal.retire_each-requires-after_bounds
retire_each-requires-after_bounds g c κs within =
    let view = g.S.Link.Peer.view in
    let olds = map view c.args.peers.items in
    let news = map view c.close-peers.result.items in
    let peers = new_peers c.args.options.host.now c.args.folders.now c.args.system olds c.requires.started (length-map c.args.peers.items view ∙ c.requires.each) in
    let account = account_of c.args.system c.args.bound c.args.options.plan olds news (g.O.Sink.view c.args.out.now) (g.O.Sink.view c.run-end.new.out) (standing view c.run-end.new.self) c.run-end.result in
    let session : Session account = c.histories_of_peers.ensures.run account (standing view c.in-Ok.master) (standing view c.run-end.new.self) c.requires.runnable.sound c.requires.bound c.requires.counts peers c.in-Ok.ensures.ok
    (subst (λ (held : Option Snapshot). RunsFrom held (standing view c.in-Ok.master) (standing view c.run-end.new.self) (g.O.Sink.view c.args.out.now) (g.O.Sink.view c.run-end.new.out) c.run-end.result) c.in-Ok.ensures.ok.whole c.run-end.ensures)
    c.close-peers.ensures refl in
    let same : length c.close-peers.result.items ≡ length c.args.peers.items = sym (length-map c.close-peers.result.items view) ∙ session_news account session ∙ sym c.requires.each in
    let room = c.requires.fewer in
    omega (arith, same, room)

pub call_counts-counts-requires-after_bounds : goal.call_counts-counts-requires-after_bounds
call_counts-counts-requires-after_bounds g c κs within =
    let view = g.S.Link.Peer.view in
    let olds = map view c.args.peers.items in
    let news = map view c.close-peers.result.items in
    let peers = new_peers c.args.options.host.now c.args.folders.now c.args.system olds c.requires.started (length-map c.args.peers.items view ∙ c.requires.each) in
    let account = account_of c.args.system c.args.bound c.args.options.plan olds news (g.O.Sink.view c.args.out.now) (g.O.Sink.view c.run-end.new.out) (standing view c.run-end.new.self) c.run-end.result in
    let session : Session account = c.histories_of_peers.ensures.run account (standing view c.in-Ok.master) (standing view c.run-end.new.self) c.requires.runnable.sound c.requires.bound c.requires.counts peers c.in-Ok.ensures.ok
    (subst (λ (held : Option Snapshot). RunsFrom held (standing view c.in-Ok.master) (standing view c.run-end.new.self) (g.O.Sink.view c.args.out.now) (g.O.Sink.view c.run-end.new.out) c.run-end.result) c.in-Ok.ensures.ok.whole c.run-end.ensures)
    c.close-peers.ensures refl in
    let same : length c.deref.result.now ≡ length c.args.system.components = ap length c.deref.ensures.value ∙ sym (length-map c.close-peers.result.items view) ∙ session_news account session in
    let few : length c.args.system.components ≤ 256 = c.requires.runnable.sound.components.few in
    omega (arith, same, few)

pub report_end-requires : goal.report_end-requires
report_end-requires g c =
    let view = g.S.Link.Peer.view in
    let olds = map view c.args.peers.items in
    let news = map view c.close-peers.result.items in
    let peers = new_peers c.args.options.host.now c.args.folders.now c.args.system olds c.requires.started (length-map c.args.peers.items view ∙ c.requires.each) in
    let account = account_of c.args.system c.args.bound c.args.options.plan olds news (g.O.Sink.view c.args.out.now) (g.O.Sink.view c.run-end.new.out) (standing view c.run-end.new.self) c.run-end.result in
    let session : Session account = c.histories_of_peers.ensures.run account (standing view c.in-Ok.master) (standing view c.run-end.new.self) c.requires.runnable.sound c.requires.bound c.requires.counts peers c.in-Ok.ensures.ok
    (subst (λ (held : Option Snapshot). RunsFrom held (standing view c.in-Ok.master) (standing view c.run-end.new.self) (g.O.Sink.view c.args.out.now) (g.O.Sink.view c.run-end.new.out) c.run-end.result) c.in-Ok.ensures.ok.whole c.run-end.ensures)
    c.close-peers.ensures refl in
    subst (λ (n : Names). NamesOne n c.run-end.result) (sym c.requires.names) (session_names account c.requires.runnable.sound session)

pub retire_each-requires-in-Err-after_bounds : goal.retire_each-requires-in-Err-after_bounds
retire_each-requires-in-Err-after_bounds g c κs within =
    let view = g.S.Link.Peer.view in
    let olds = map view c.args.peers.items in
    let news = map view c.in-Err.field-0.peers.items in
    let peers = new_peers c.args.options.host.now c.args.folders.now c.args.system olds c.requires.started (length-map c.args.peers.items view ∙ c.requires.each) in
    let same : length c.in-Err.field-0.peers.items ≡ length c.args.peers.items =
    sym (length-map c.in-Err.field-0.peers.items view) ∙ given_back c.args.system c.args.options.plan.link olds news c.in-Err.field-0.fault c.requires.runnable.sound peers c.histories_of_peers.ensures.unmade c.in-Err.ensures.err
    ∙ length-map c.args.peers.items view in
    let room = c.requires.fewer in
    omega (arith, same, room)

pub report_end-requires-in-Bad : goal.report_end-requires-in-Bad
report_end-requires-in-Bad g c =
    let view = g.S.Link.Peer.view in
    let olds = map view c.args.peers.items in
    let news = map view c.in-Err.field-0.peers.items in
    let peers = new_peers c.args.options.host.now c.args.folders.now c.args.system olds c.requires.started (length-map c.args.peers.items view ∙ c.requires.each) in
    let unmade : FailedStart c.args.system c.args.options.plan.link olds c.in-Bad.bad news =
    c.histories_of_peers.ensures.unmade c.args.system c.args.options.plan.link olds news c.in-Bad.bad c.requires.runnable.sound peers (subst (λ (f : PrepareFault). FailsToPrepare c.args.system c.args.options.plan.link olds f news) c.in-Bad.is c.in-Err.ensures.err) in
    subst (λ (n : ℕ). c.in-Bad.bad.component.0 < n) (sym (ap (λ (n : Names). length n.components) c.requires.names ∙ length-map c.args.system.components (λ (x : Component). x.name))) (unmade_names c.args.system c.args.options.plan.link olds news c.in-Bad.bad unmade)

pub returns-in-Ok : goal.returns-in-Ok
returns-in-Ok g c before known made told =
    let view = g.S.Link.Peer.view in
    let olds = map view c.args.peers.items in
    let news = map view c.close-peers.result.items in
    let peers = new_peers c.args.options.host.now c.args.folders.now c.args.system olds c.requires.started (length-map c.args.peers.items view ∙ c.requires.each) in
    let account = account_of c.args.system c.args.bound c.args.options.plan olds news (g.O.Sink.view c.args.out.now) (g.O.Sink.view c.run-end.new.out) (standing view c.run-end.new.self) c.run-end.result in
    let session : Session account = c.histories_of_peers.ensures.run account (standing view c.in-Ok.master) (standing view c.run-end.new.self) c.requires.runnable.sound c.requires.bound c.requires.counts peers c.in-Ok.ensures.ok
    (subst (λ (held : Option Snapshot). RunsFrom held (standing view c.in-Ok.master) (standing view c.run-end.new.self) (g.O.Sink.view c.args.out.now) (g.O.Sink.view c.run-end.new.out) c.run-end.result) c.in-Ok.ensures.ok.whole c.run-end.ensures)
    c.close-peers.ensures refl in
    let task = task_with c.args.options c.args.bound c.args.folders.now in
    let old = scene before (g.O.Sink.view c.args.out.now) in
    let new = scene (g.S.Spawner.view c.retire_each.new.spawner) (g.O.Sink.view c.run-end.new.out) in
    let runs : RunsPeers task c.args.system olds news before (g.S.Spawner.view c.retire_each.new.spawner) = record {
      known = known;
      each = length-map c.args.peers.items view ∙ c.requires.each;
      are = c.requires.started;
      made = made;
      told = c.retire_each.ensures ∙ ap (λ (s : SpawnerView). with_all_retired s news) (told ∙ ap (with_all_started before) (sym (length-map c.args.peers.items view)));
    } in
    let ended = c.report_end.ensures in
    subst (λ (o : Outcome). RanFacts o (numbers_of c.instants-instants.result c.call_counts-counts.result) task c.args.system old new) (sym ended.1) (record {
      end = c.run-end.result;
      named = subst (λ (names : Names). IsEndOf names c.run-end.result ended.0) c.requires.names ended.2;
      run = Went (goes account task old new c.requires.runnable c.requires.bound c.requires.within.plan_is refl refl refl refl runs session c.histories_of_peers.ensures.over c.runs_of_machines.ensures.run c.runs_of_machines.ensures.trace);
      numbered = are_numbers view c.close-peers.result.items c.call_counts-counts.result account session refl c.counted_talks.ensures c.deref.result.now c.deref.ensures.value c.instants-instants.result c.instants-instants.ensures c.call_counts-counts.ensures.calls c.call_counts-counts.ensures.rollbacks;
    })

pub returns-in-Bad : goal.returns-in-Bad
returns-in-Bad g c before known made told =
    let view = g.S.Link.Peer.view in
    let olds = map view c.args.peers.items in
    let news = map view c.in-Err.field-0.peers.items in
    let task = task_with c.args.options c.args.bound c.args.folders.now in
    let peers = new_peers c.args.options.host.now c.args.folders.now c.args.system olds c.requires.started (length-map c.args.peers.items view ∙ c.requires.each) in
    let unmade : FailedStart c.args.system c.args.options.plan.link olds c.in-Bad.bad news =
    c.histories_of_peers.ensures.unmade c.args.system c.args.options.plan.link olds news c.in-Bad.bad c.requires.runnable.sound peers (subst (λ (f : PrepareFault). FailsToPrepare c.args.system c.args.options.plan.link olds f news) c.in-Bad.is c.in-Err.ensures.err) in
    let out = g.O.Sink.view c.args.out.now in
    let old = scene before out in
    let new = scene (g.S.Spawner.view c.retire_each-in-Err.new.spawner) out in
    let runs : RunsPeers task c.args.system olds news before (g.S.Spawner.view c.retire_each-in-Err.new.spawner) = record {
      known = known;
      each = length-map c.args.peers.items view ∙ c.requires.each;
      are = c.requires.started;
      made = made;
      told = c.retire_each-in-Err.ensures ∙ ap (λ (s : SpawnerView). with_all_retired s news) (told ∙ ap (with_all_started before) (sym (length-map c.args.peers.items view)));
    } in
    let ended = c.report_end-in-Bad.ensures in
    subst (λ (o : Outcome). RanFacts o no_numbers task c.args.system old new) (sym ended.1) (record {
      end = E.Bad c.in-Bad.bad;
      named = subst (λ (names : Names). IsEndOf names (E.Bad c.in-Bad.bad) ended.0) c.requires.names ended.2;
      run = Broke c.in-Bad.bad refl (fails task c.args.system c.in-Bad.bad olds news old new c.requires.runnable runs unmade refl c.histories_of_peers.ensures.over c.runs_of_machines.ensures.unmade);
      numbered = tt;
    })
