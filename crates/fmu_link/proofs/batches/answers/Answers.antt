use Rattle.std.proofs.Common.{false, arith}
use Rattle.fmi_calls.specs.declared.call.Call.TheVariants as C
use Rattle.fmu_link.proofs.BatchReplies.{may_answer, other_kind, too_many}
use Rattle.fmu_link.proofs.batches.answers.Goals as goal

pub returns-then-count-calls-clause-yes : goal.returns-then-count-calls-clause-yes
returns-then-count-calls-clause-yes c = λ is.
    may_answer c.args.calls.now (C.Instantiate false false false) c.args.came.now c.args.count c.item.result c.requires.some c.requires.batch c.item.ensures c.if-count-calls.true (c.is_of_kind.ensures.yes is)

pub returns-then-count-calls-clause-no : goal.returns-then-count-calls-clause-no
returns-then-count-calls-clause-no c = λ is.
    other_kind c.args.calls.now (C.Instantiate false false false) c.args.came.now c.args.count c.item.result c.requires.some c.requires.batch c.item.ensures (c.is_of_kind.ensures.no is)

pub returns-else-count-calls-clause-no : goal.returns-else-count-calls-clause-no
returns-else-count-calls-clause-no c = λ is. too_many c.args.calls.now c.args.came.now c.args.count c.requires.batch (omega arith)
