use Rattle.calling_sequence.specs.StageOutcomes.{or_ends, spot}
use Rattle.calling_sequence.proofs.Stages.{then_steps}
use Rattle.calling_sequence.proofs.Ways.{ends_so}
use Rattle.calling_sequence.proofs.steps.leave.Goals as goal

pub returns-in-Err-clause-steps : goal.returns-in-Err-clause-steps
returns-in-Err-clause-steps g c n count v olds past may h = ends_so c.args.experiment.now olds past _ v count _ _ c.end_badly.ensures (c.in-Err.ensures.goes (spot c.args.t n c.args.buffers.now) c.args.bound count v olds past h)

pub returns-in-Ok-clause-steps : goal.returns-in-Ok-clause-steps
returns-in-Ok-clause-steps g c n count =
    let s = spot c.args.t n c.args.buffers.now in
    then_steps c.args.experiment.now _ _ _ _ _ _ count count count c.args.t (λ v olds past h. c.in-Ok.ensures.goes s c.args.bound count v olds past h) (or_ends c.step.result c.step.new.ending) (c.step.ensures.steps s count)
