use Rattle.std.proofs.Common.{ap, refl, sym, subst, ◌∙◌}
use Rattle.std.specs.Prelude.{Option, option_map}
use Rattle.command_line.specs.Line.{RunLine, run_of}
use Rattle.system_files.specs.Loads.{EndsLoading, Loads}
use Rattle.system_files.specs.Order.{Found, Search}
use Rattle.run_program.specs.Facts.{LoadedFacts, OfSystem, Unloaded}
use Rattle.run_program.specs.Happened.{scene}
use Rattle.run_program.proofs.Finishing.{without_numbers}
use Rattle.run_program.proofs.Lines.{end_facts, has_folders}
use Rattle.run_program.proofs.run.run_request.Goals as goal

pub run_system-report-requires-clause-folders : goal.run_system-report-requires-clause-folders
run_system-report-requires-clause-folders g c κs within =
    let loads = c.in-Ok.ensures.ok in
    has_folders _ loads.reads loads.asked c.in-Ok.loaded loads.comes.comes

pub returns-in-Some : goal.returns-in-Some
returns-in-Some g c = λ line asks.
    let loaded = c.in-Ok.loaded in
    OfSystem loaded
    (subst (λ (s : Search). Loads s (Found loaded) (g.F.Folder.view c.args.folder.now) (g.F.Folder.view c.load.new.folder)) asks.search c.in-Ok.ensures.ok)
    (subst (λ (p : Option RunLine). LoadedFacts p c.run_system-report.result.report.outcome loaded
    (scene (g.S.Spawner.view c.args.spawner.now) (g.O.Sink.view c.args.out.now))
    (scene (g.S.Spawner.view c.run_system-report.new.spawner) (g.O.Sink.view c.run_system-report.new.out))) (sym (ap (option_map run_of) c.in-Some.is) ∙ asks.run)
    (without_numbers c.run_system-report.result.report.outcome c.run_system-report.result.numbers _ _ _ _ c.run_system-report.ensures))

pub returns-in-None : goal.returns-in-None
returns-in-None g c = λ line asks.
    let loaded = c.in-Ok.loaded in
    let spawner = g.S.Spawner.view c.args.spawner.now in
    OfSystem loaded
    (subst (λ (s : Search). Loads s (Found loaded) (g.F.Folder.view c.args.folder.now) (g.F.Folder.view c.load.new.folder)) asks.search c.in-Ok.ensures.ok)
    (subst (λ (p : Option RunLine). LoadedFacts p c.tell_size.result.outcome loaded
    (scene spawner (g.O.Sink.view c.args.out.now)) (scene spawner (g.O.Sink.view c.tell_size.new.out))) (sym (ap (option_map run_of) c.in-None.is) ∙ asks.run) (c.tell_size.ensures spawner))

pub returns-in-Err : goal.returns-in-Err
returns-in-Err g c = λ line asks.
    let old = g.F.Folder.view c.args.folder.now in
    let new = g.F.Folder.view c.load.new.folder in
    Unloaded refl (end_facts c.in-Err.end c.refuse.result.outcome line old new (subst (λ (s : Search). EndsLoading s c.in-Err.end old new) asks.search c.in-Err.ensures.err) c.refuse.ensures)
