use Rattle.calling_sequence.proofs.Stages.{before_come}
use Rattle.calling_sequence.proofs.holding.come.Goals as goal

pub returns-in-Ok-clause-comes : goal.returns-in-Ok-clause-comes
returns-in-Ok-clause-comes g c = before_come c.args.experiment.now _ _ c.come_to.new.buffers _ _ _ _ _ _ _ _ _ _ (λ olds past h. c.in-Ok.ensures.crosses _ olds past h) c.come_to.result c.come_to.ensures.comes

pub returns-in-Err-clause-comes : goal.returns-in-Err-clause-comes
returns-in-Err-clause-comes g c olds past goes h = c.in-Err.ensures.crosses _ olds past h
