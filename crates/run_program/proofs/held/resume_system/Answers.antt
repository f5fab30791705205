use Rattle.std.proofs.Common.{List, ℕ, ap, refl, sym, subst, ◌∙◌}
use Rattle.std.proofs.lemmas.List.{length-map}
use Rattle.command_line.specs.Line.{resume_of}
use Rattle.run_program.specs.Happened.{scene}
use Rattle.run_program.specs.Held.{RestFacts, rest_of, rest_plan}
use Rattle.run_program.specs.Peers.{with_all_started}
use Rattle.run_program.proofs.HeldRuns.{rest_unstarted}
use Rattle.run_program.proofs.held.resume_system.Goals as goal

pub returns-in-Ok : goal.returns-in-Ok
returns-in-Ok g c =
    let run = c.args.run in
    let old = g.S.Spawner.view c.args.spawner.now in
    let starts = c.in-Ok.ensures.ok in
    subst (λ (fs : List (List ℕ)). RestFacts c.resume_peers.result.outcome (record { plan = rest_plan (resume_of c.args.options) run.held; host = c.args.options.host.now; bound = run.loaded.bound; folders = fs }) run.loaded.system run.held
    (scene old (g.O.Sink.view c.args.out.now)) (scene (g.S.Spawner.view c.resume_peers.new.spawner) (g.O.Sink.view c.resume_peers.new.out))) c.as_slice-folders.ensures
    (c.resume_peers.ensures old run.loaded.bound c.requires.bound starts.known starts.made (starts.told ∙ ap (with_all_started old) (length-map c.in-Ok.started.peers.items g.S.Link.Peer.view)))

pub returns : goal.returns
returns g c =
    let out = g.O.Sink.view c.args.out.now in
    let run = c.args.run in
    let task = rest_of (resume_of c.args.options) run.loaded run.held in
    rest_unstarted c.in-Err.report.outcome task run.loaded.system run.held (scene (g.S.Spawner.view c.args.spawner.now) out) (scene (g.S.Spawner.view c.start_system.new.spawner) out)
    (c.in-Err.ensures.err task out refl (sym c.as_slice-folders.ensures))
