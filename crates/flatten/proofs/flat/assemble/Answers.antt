use Rattle.flatten.proofs.AnswerLemmas.{flattened, gives_parts}
use Rattle.flatten.proofs.flat.assemble.Goals as goal

pub returns-in-Ok-clause-found : goal.returns-in-Ok-clause-found
returns-in-Ok-clause-found c =
    flattened c.args.flat.now.tree.now c.args.flat.now.shapes.now c.in-Ok.parts.components c.in-Ok.parts.ports c.in-Ok.ensures.flat c.order_parts.result c.order_parts.ensures.parts c.order_parts.ensures.orders

pub returns-in-Ok-clause-fault : goal.returns-in-Ok-clause-fault
returns-in-Ok-clause-fault c = c.order_parts.ensures.fault c.args.flat.now.shapes.now c.requires.fitting c.in-Ok.ensures.flat

pub returns-in-Ok-clause-only : goal.returns-in-Ok-clause-only
returns-in-Ok-clause-only c = λ system is.
    gives_parts c.args.flat.now.tree.now c.args.flat.now.shapes.now c.in-Ok.parts.components c.in-Ok.parts.ports c.in-Ok.ensures.flat c.order_parts.result c.requires.indexed.shapes c.order_parts.ensures.parts
    (c.order_parts.ensures.fault c.args.flat.now.shapes.now c.requires.fitting c.in-Ok.ensures.flat) system c.requires.fitting is
