use Rattle.flatten.proofs.AnswerLemmas.{answer_of, answer_refused}
use Rattle.flatten.proofs.flat.answer.Goals as goal

pub returns-in-Ok-None : goal.returns-in-Ok-None
returns-in-Ok-None c =
    answer_of c.args.flat.now.tree.now c.args.flat.now.shapes.now c.assemble.result c.requires.indexed.whole c.requires.indexed.shapes (rw c.in-Ok-None.field-0-is at c.in-Ok-None.ensures)
    c.assemble.ensures.found c.assemble.ensures.fault c.assemble.ensures.only

pub returns-in-Ok-Some : goal.returns-in-Ok-Some
returns-in-Ok-Some c = answer_refused c.args.flat.now.tree.now c.args.flat.now.shapes.now c.refusal.result c.in-Ok-Some.rule c.in-Ok-Some.node c.refusal.ensures (rw c.in-Ok-Some.field-0-is at c.in-Ok-Some.ensures)
