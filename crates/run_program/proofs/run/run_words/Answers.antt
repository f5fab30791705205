use Rattle.std.proofs.Common.{◌≡◌, refl, subst}
use Rattle.command_line.specs.Line.{Asked, IsAsked, OfBench, OfCheckpoint, OfResume, OfTrace, asked_of, bench_of, checkpoint_of, line_of, resume_of, texts, trace_of}
use Rattle.command_line.specs.declared.words.Request.{Request}
use Rattle.run_program.proofs.TraceRows.{no_line_rows, of_one, system_rows, unread_rows}
use Rattle.run_program.proofs.run.run_words.Goals as goal

pub returns-in-Ok-System-clause-rows : goal.returns-in-Ok-System-clause-rows
returns-in-Ok-System-clause-rows g c =
    let words = texts c.args.words.now in
    let r = c.in-Ok-System.field-0-is in
    system_rows c.built_in_runs.ensures.behaves c.run_request.result.outcome _ (line_of c.in-Ok-System.line)
    (subst (λ (x : Request). IsAsked words (asked_of x)) r c.in-Ok-System.ensures.ok)
    (subst (λ (x : Request). (asked : Asked) → IsAsked words asked → asked_of x ≡ asked) r c.in-Ok-System.ensures.only) (c.run_request.ensures (line_of c.in-Ok-System.line) c.request_of.ensures.asks) c.put.ensures

pub returns-in-Ok-TraceCheck-clause-rows : goal.returns-in-Ok-TraceCheck-clause-rows
returns-in-Ok-TraceCheck-clause-rows g c =
    let words = texts c.args.words.now in
    let r = c.in-Ok-TraceCheck.field-0-is in
    of_one _ (OfTrace (trace_of c.in-Ok-TraceCheck.options))
    (subst (λ (x : Request). IsAsked words (asked_of x)) r c.in-Ok-TraceCheck.ensures.ok)
    (subst (λ (x : Request). (asked : Asked) → IsAsked words asked → asked_of x ≡ asked) r c.in-Ok-TraceCheck.ensures.only)
    (record { calm = refl; ends = c.check_trace.ensures words (g.S.Spawner.view c.args.spawner.now) })

pub returns-in-Ok-Bench-clause-rows : goal.returns-in-Ok-Bench-clause-rows
returns-in-Ok-Bench-clause-rows g c =
    let words = texts c.args.words.now in
    let r = c.in-Ok-Bench.field-0-is in
    of_one _ (OfBench (bench_of c.in-Ok-Bench.options))
    (subst (λ (x : Request). IsAsked words (asked_of x)) r c.in-Ok-Bench.ensures.ok)
    (subst (λ (x : Request). (asked : Asked) → IsAsked words asked → asked_of x ≡ asked) r c.in-Ok-Bench.ensures.only)
    (record { files = refl; outcome = c.run_bench.result.outcome; facts = c.run_bench.ensures; told = c.put-in-Ok-Bench.ensures })

pub returns-in-Ok-Checkpoint-clause-rows : goal.returns-in-Ok-Checkpoint-clause-rows
returns-in-Ok-Checkpoint-clause-rows g c =
    let words = texts c.args.words.now in
    let r = c.in-Ok-Checkpoint.field-0-is in
    of_one _ (OfCheckpoint (checkpoint_of c.in-Ok-Checkpoint.options))
    (subst (λ (x : Request). IsAsked words (asked_of x)) r c.in-Ok-Checkpoint.ensures.ok)
    (subst (λ (x : Request). (asked : Asked) → IsAsked words asked → asked_of x ≡ asked) r c.in-Ok-Checkpoint.ensures.only)
    (record { outcome = c.hold_run.result.outcome; facts = c.hold_run.ensures; told = c.put-in-Ok-Checkpoint.ensures })

pub returns-in-Ok-Resume-clause-rows : goal.returns-in-Ok-Resume-clause-rows
returns-in-Ok-Resume-clause-rows g c =
    let words = texts c.args.words.now in
    let r = c.in-Ok-Resume.field-0-is in
    of_one _ (OfResume (resume_of c.in-Ok-Resume.options))
    (subst (λ (x : Request). IsAsked words (asked_of x)) r c.in-Ok-Resume.ensures.ok)
    (subst (λ (x : Request). (asked : Asked) → IsAsked words asked → asked_of x ≡ asked) r c.in-Ok-Resume.ensures.only)
    (c.resume_run.ensures words)

pub returns-in-Err-NoLine-clause-rows : goal.returns-in-Err-NoLine-clause-rows
returns-in-Err-NoLine-clause-rows g c =
    no_line_rows c.built_in_runs.ensures.behaves c.words.result.outcome _ c.words.ensures refl (c.in-Err-NoLine.ensures.none c.in-Err-NoLine.field-0-is) c.put-in-Err-NoLine.ensures

pub returns-in-Err-Memory-clause-rows : goal.returns-in-Err-Memory-clause-rows
returns-in-Err-Memory-clause-rows g c =
    unread_rows c.built_in_runs.ensures.behaves c.memory.result.outcome _ c.memory.ensures refl c.put-in-Err-Memory.ensures
