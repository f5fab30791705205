use Rattle.std.proofs.Common.{List, ℕ, ap, refl, sym, subst, ◌∙◌}
use Rattle.std.proofs.lemmas.List.{length-map}
use Rattle.command_line.specs.Line.{run_of}
use Rattle.run_program.specs.Bench.{RanFacts}
use Rattle.run_program.specs.Facts.{task_of}
use Rattle.run_program.specs.Happened.{scene}
use Rattle.run_program.specs.Peers.{with_all_started}
use Rattle.run_program.proofs.Counting.{no_numbers}
use Rattle.run_program.proofs.Finishing.{ran_unstarted}
use Rattle.run_program.proofs.run.run_system.Goals as goal

pub returns-in-Ok : goal.returns-in-Ok
returns-in-Ok g c =
    let options = c.args.options in
    let loaded = c.args.loaded in
    let old = g.S.Spawner.view c.args.spawner.now in
    let starts = c.in-Ok.ensures.ok in
    subst (λ (fs : List (List ℕ)). RanFacts c.run_peers.result.report.outcome c.run_peers.result.numbers (record { plan = options.plan; host = options.host.now; bound = loaded.bound; folders = fs }) loaded.system
    (scene old (g.O.Sink.view c.args.out.now)) (scene (g.S.Spawner.view c.run_peers.new.spawner) (g.O.Sink.view c.run_peers.new.out))) c.as_slice-folders.ensures
    (c.run_peers.ensures old starts.known starts.made (starts.told ∙ ap (with_all_started old) (length-map c.in-Ok.field-0.peers.items g.S.Link.Peer.view)))

pub returns-in-Err : goal.returns-in-Err
returns-in-Err g c =
    let out = g.O.Sink.view c.args.out.now in
    let task = task_of (run_of c.args.options) c.args.loaded in
    ran_unstarted c.in-Err.report.outcome no_numbers task c.args.loaded.system (scene (g.S.Spawner.view c.args.spawner.now) out) (scene (g.S.Spawner.view c.start_system.new.spawner) out)
    (c.in-Err.ensures.err task out refl (sym c.as_slice-folders.ensures))
