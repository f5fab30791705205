use Rattle.calling_sequence.specs.Course.{Found}
use Rattle.calling_sequence.specs.Ends.{LostAtFirst}
use Rattle.calling_sequence.specs.declared.run_end.RunEnd.TheVariants as E
use Rattle.calling_sequence.proofs.Onto.{ends}
use Rattle.calling_sequence.proofs.initialization.initialize.Goals as goal

pub lost_initially-requires-clause-values : goal.lost_initially-requires-clause-values
lost_initially-requires-clause-values g c = c.in-Ok.ensures.fresh.places

pub returns-in-Some-clause-crosses : goal.returns-in-Some-clause-crosses
returns-in-Some-clause-crosses g c v olds before h =
    let e = c.args.experiment.now in
    let values = c.find_values.new.buffers.values in
    ends e olds before (Found values) _ _ _ (c.in-Ok.ensures.goes v olds before h) (E.Range c.in-Some.lost e.plan.start)
    (LostAtFirst values c.in-Some.lost c.in-Some.ensures) tt

pub leave-requires-clause-kept : goal.leave-requires-clause-kept
leave-requires-clause-kept g c κs lives = c.in_default.ensures

pub returns-in-Ok-leave-clause-crosses : goal.returns-in-Ok-leave-clause-crosses
returns-in-Ok-leave-clause-crosses g c v olds before h = c.in-Ok-leave.ensures.goes v olds before (c.in-Ok.ensures.goes v olds before h)

pub returns-in-Err-leave-clause-crosses : goal.returns-in-Err-leave-clause-crosses
returns-in-Err-leave-clause-crosses g c v olds before h = c.in-Err-leave.ensures.goes v olds before (c.in-Ok.ensures.goes v olds before h)
