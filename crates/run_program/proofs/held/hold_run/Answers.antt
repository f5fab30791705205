use Rattle.std.proofs.Common.{refl}
use Rattle.command_line.specs.Line.{checkpoint_of}
use Rattle.run_program.specs.Held.{OfSystem, Unloaded, search_for}
use Rattle.run_program.proofs.HeldRuns.{held_end_facts, held_folders}
use Rattle.run_program.proofs.held.hold_run.Goals as goal

pub hold_system-requires-clause-folders : goal.hold_system-requires-clause-folders
hold_system-requires-clause-folders g c κs within =
    let loads = c.in-Ok.ensures.ok in
    held_folders _ _ loads.reads loads.asked c.in-Ok.loaded loads.comes

pub returns-in-Ok : goal.returns-in-Ok
returns-in-Ok g c = OfSystem c.in-Ok.loaded c.in-Ok.ensures.ok c.hold_system.ensures

pub returns-in-Err : goal.returns-in-Err
returns-in-Err g c =
    Unloaded refl (held_end_facts c.in-Err.end c.refuse.result.outcome (search_for (checkpoint_of c.args.options)) c.args.options.run.plan (g.F.Folder.view c.args.folder.now) (g.F.Folder.view c.load_held.new.folder) c.in-Err.ensures.err c.refuse.ensures)
