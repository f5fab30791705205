use Rattle.trace_export.proofs.RowLemmas.{flushed}
use Rattle.trace_export.proofs.output.Output.flush.Goals as goal

pub returns-in-Ok-clause-kept : goal.returns-in-Ok-clause-kept
returns-in-Ok-clause-kept g c =
    let noted = rw c.in-Ok.is at c.put-outcome.ensures.noted in
    flushed (g.S.Sink.view c.args.self.now.sink) (g.S.Sink.view c.put-outcome.new.self) c.deref.result.now c.args.self.now.bytes.items
    c.clear.new.self.items noted c.deref.ensures.value c.clear.ensures.items
