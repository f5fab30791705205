use Rattle.std.proofs.Common.{refl}
use Rattle.calling_sequence.proofs.Stages.{then_goes}
use Rattle.calling_sequence.proofs.initialization.find_values.Goals as goal

pub returns-in-Err-enter-clause-goes : goal.returns-in-Err-enter-clause-goes
returns-in-Err-enter-clause-goes g c v olds before h = c.in-Err-enter.ensures.goes _ v olds before (c.in-Ok.ensures.goes _ v olds before h)

pub returns-clause-goes : goal.returns-clause-goes
returns-clause-goes g c =
    then_goes c.args.experiment.now _ _ _ _ _ _ _ _ _ refl (λ v olds before h. c.in-Ok-enter.ensures.goes _ v olds before (c.in-Ok.ensures.goes _ v olds before h)) c.find.result c.find.ensures.goes
