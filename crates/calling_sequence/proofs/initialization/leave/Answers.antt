use Rattle.std.proofs.Common.{refl}
use Rattle.calling_sequence.proofs.Stages.{then_goes}
use Rattle.calling_sequence.proofs.initialization.leave.Goals as goal

pub returns-clause-goes : goal.returns-clause-goes
returns-clause-goes g c =
    then_goes c.args.experiment.now _ _ _ _ _ _ _ _ _ refl (λ v olds before h. c.in-Ok.ensures.goes v olds before h) c.exit.result c.exit.ensures.goes
