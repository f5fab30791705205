use Rattle.std.proofs.Common.{List, ℕ, refl, subst}
use Rattle.std.specs.Prelude.{Some}
use Rattle.command_line.specs.Line.{resume_of}
use Rattle.checkpoint_loading.specs.declared.rest.RestEnd.{RestEnd}
use Rattle.checkpoint_loading.specs.Loading.{EndsRest}
use Rattle.run_program.specs.Held.{NoneThere, NothingHeld, OfHeld, Resumed, question_of}
use Rattle.run_program.specs.Message.{Reports, checkpoint_message}
use Rattle.run_program.proofs.RestRuns.{memory_facts, rest_end_facts, rest_folders}
use Rattle.run_program.proofs.held.resume_run.Goals as goal

pub resume_system-requires-clause-folders : goal.resume_system-requires-clause-folders
resume_system-requires-clause-folders g c κs within =
    rest_folders (question_of (resume_of c.args.options)) c.in-Ok.rest.loaded c.in-Ok.rest.held (g.F.Folder.view c.args.folder.now) (g.F.Folder.view c.load_rest.new.folder) c.in-Ok.ensures.ok

pub returns-in-Ok : goal.returns-in-Ok
returns-in-Ok g c words =
    Resumed c.resume_system.result.outcome (OfHeld c.in-Ok.rest.loaded c.in-Ok.rest.held c.in-Ok.ensures.ok c.resume_system.ensures) c.put.ensures

pub returns-in-NoCheckpoint : goal.returns-in-NoCheckpoint
returns-in-NoCheckpoint g c words =
    let q = question_of (resume_of c.args.options) in
    let old = g.F.Folder.view c.args.folder.now in
    let new = g.F.Folder.view c.load_rest.new.folder in
    let ends = subst (λ (e : RestEnd). EndsRest q e old new) c.in-NoCheckpoint.is c.in-Err.ensures.err in
    NoneThere c.in-NoCheckpoint.at refl ends.1
    (subst (λ (path : List ℕ). Reports (Some (checkpoint_message path c.in-NoCheckpoint.at)) 12 c.put_no_checkpoint.result (g.E.Sink.view c.args.err.now) (g.E.Sink.view c.put_no_checkpoint.new.err)) ends.0 c.put_no_checkpoint.ensures)

pub returns-in-File : goal.returns-in-File
returns-in-File g c words =
    let q = question_of (resume_of c.args.options) in
    let old = g.F.Folder.view c.args.folder.now in
    let new = g.F.Folder.view c.load_rest.new.folder in
    let ends = subst (λ (e : RestEnd). EndsRest q e old new) c.in-File.is c.in-Err.ensures.err in
    Resumed c.refuse.result.outcome (NothingHeld refl (rest_end_facts c.in-File.file c.in-File.fault c.refuse.result.outcome q old new ends c.refuse.ensures)) c.put-in-File.ensures

pub returns-in-Memory : goal.returns-in-Memory
returns-in-Memory g c words =
    let q = question_of (resume_of c.args.options) in
    let old = g.F.Folder.view c.args.folder.now in
    let new = g.F.Folder.view c.load_rest.new.folder in
    let ends = subst (λ (e : RestEnd). EndsRest q e old new) c.in-Memory.is c.in-Err.ensures.err in
    Resumed c.memory.result.outcome (NothingHeld refl (memory_facts c.memory.result.outcome q old new ends c.memory.ensures)) c.put-in-Memory.ensures
