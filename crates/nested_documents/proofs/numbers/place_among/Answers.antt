use Rattle.std.proofs.Common.{slice_get}
use Rattle.nested_documents.specs.Numbers.{elements_in}
use Rattle.nested_documents.proofs.RunLemmas.{get_after, get_here}
use Rattle.nested_documents.proofs.numbers.place_among.Goals as goal

pub returns-then-left-run : goal.returns-then-left-run
returns-then-left-run c =
    get_here c.args.runs.now c.loop-run.run-index c.run-item.result c.loop-run.left (slice_get (elements_in c.args.runs.now) c.args.number)
    c.loop-run-test.true c.run-item.is c.if-left-run.true c.loop-run.invariant

pub loop-run-preserved : goal.loop-run-preserved
loop-run-preserved c =
    get_after c.args.runs.now c.loop-run.run-index c.run-item.result c.loop-run.left (slice_get (elements_in c.args.runs.now) c.args.number)
    c.loop-run-test.true c.run-item.is c.if-left-run.false c.loop-run.invariant
