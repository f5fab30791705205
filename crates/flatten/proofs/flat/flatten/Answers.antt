use Rattle.std.proofs.Common.{subst}
use Rattle.flatten.specs.Answers.{IsAnswer}
use Rattle.flatten.proofs.flat.flatten.Goals as goal

pub returns-in-Ok : goal.returns-in-Ok
returns-in-Ok c =
    let r = c.answer.result in
    let a : IsAnswer c.args.tree.now c.args.shapes.now r =
    subst (λ s. IsAnswer c.args.tree.now s r) c.in-Ok.ensures.shapes (subst (λ t. IsAnswer t c.in-Ok.flat.shapes.now r) c.in-Ok.ensures.tree c.answer.ensures) in
    record { fitting = a.fitting; found = a.found; sound = a.sound; fault = a.fault; exact = a.exact; only = a.only }
