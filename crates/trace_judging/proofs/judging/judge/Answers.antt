use Rattle.std.proofs.Common.{ℕ, List, subst}
use Rattle.trace_reading.specs.Faults.{IsFirstFault}
use Rattle.trace_reading.specs.Form.{IsTextOf}
use Rattle.trace_judging.specs.Judging.{Question, TheTrace}
use Rattle.trace_judging.proofs.JudgeLemmas.{LawsOfTexts, fault_judged, if_err_too, if_ok_too, lacks_verdict, takes_said, unread_lacking, verdict_judged}
use Rattle.trace_judging.proofs.judging.judge.Goals as goal

pub returns-in-Ok-read_trace-clause-ok : goal.returns-in-Ok-read_trace-clause-ok
returns-in-Ok-read_trace-clause-ok g c =
    let q : Question = record { directory = c.args.directory.now; file = c.args.file.now } in
    let old = g.F.Folder.view c.args.folder.now in
    let t = c.in-Ok-read_trace.trace in
    let laws : LawsOfTexts = record { one = c.texts_of_traces.ensures.one; none = c.texts_of_traces.ensures.none; first = c.texts_of_traces.ensures.first } in
    let mid = g.F.Folder.view c.read_file.new.folder in
    let takes = takes_said IsTextOf q.file c.in-Ok.bytes t old mid c.in-Ok.ensures.ok (subst (λ (b : List ℕ). IsTextOf b t) c.as_slice.ensures c.in-Ok-read_trace.ensures.found) in
    if_ok_too c.judge_trace.result _ _ (verdict_judged laws q old (g.F.Folder.view c.judge_trace.new.folder) t mid takes) c.judge_trace.ensures.ok

pub returns-in-Ok-read_trace-clause-err : goal.returns-in-Ok-read_trace-clause-err
returns-in-Ok-read_trace-clause-err g c =
    let q : Question = record { directory = c.args.directory.now; file = c.args.file.now } in
    let old = g.F.Folder.view c.args.folder.now in
    let t = c.in-Ok-read_trace.trace in
    let laws : LawsOfTexts = record { one = c.texts_of_traces.ensures.one; none = c.texts_of_traces.ensures.none; first = c.texts_of_traces.ensures.first } in
    let mid = g.F.Folder.view c.read_file.new.folder in
    let takes = takes_said IsTextOf q.file c.in-Ok.bytes t old mid c.in-Ok.ensures.ok (subst (λ (b : List ℕ). IsTextOf b t) c.as_slice.ensures c.in-Ok-read_trace.ensures.found) in
    if_err_too c.judge_trace.result _ _ (lacks_verdict laws q old (g.F.Folder.view c.judge_trace.new.folder) t mid takes) c.judge_trace.ensures.err

pub returns-in-Err-Line-clause-ok : goal.returns-in-Err-Line-clause-ok
returns-in-Err-Line-clause-ok g c =
    let q : Question = record { directory = c.args.directory.now; file = c.args.file.now } in
    let old = g.F.Folder.view c.args.folder.now in
    let new = g.F.Folder.view c.read_file.new.folder in
    let laws : LawsOfTexts = record { one = c.texts_of_traces.ensures.one; none = c.texts_of_traces.ensures.none; first = c.texts_of_traces.ensures.first } in
    let is = c.in-Err-Line.is in
    let inner = c.in-Err-Line.field-0-is in
    let fault = c.read_trace.ensures.fault c.in-Err-Line.line (cc (is, inner)) in
    rw inner (fault_judged laws q old new c.in-Err-Line.line
    (takes_said IsFirstFault q.file c.in-Ok.bytes c.in-Err-Line.line old new c.in-Ok.ensures.ok (subst (λ (b : List ℕ). IsFirstFault b c.in-Err-Line.line) c.as_slice.ensures fault)))

pub returns-clause-err : goal.returns-clause-err
returns-clause-err g c =
    let q : Question = record { directory = c.args.directory.now; file = c.args.file.now } in
    let laws : LawsOfTexts = record { one = c.texts_of_traces.ensures.one; none = c.texts_of_traces.ensures.none; first = c.texts_of_traces.ensures.first } in
    unread_lacking laws q (g.F.Folder.view c.args.folder.now) (g.F.Folder.view c.read_file.new.folder) c.in-Err.end c.in-Err.ensures.err

pub returns-in-Ok-clause-err : goal.returns-in-Ok-clause-err
returns-in-Ok-clause-err g c = TheTrace c.in-Ok.ensures.ok.reads c.in-Ok.ensures.ok.asks
