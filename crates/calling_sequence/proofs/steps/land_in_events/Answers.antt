use Rattle.calling_sequence.proofs.Ways.{ends_so}
use Rattle.calling_sequence.proofs.steps.land_in_events.Goals as goal

pub returns-in-Ok-clause-crosses : goal.returns-in-Ok-clause-crosses
returns-in-Ok-clause-crosses g c s ticks count begins v olds past h =
    c.in-Ok.ensures.goes (record s { t = c.args.point; n = 0 }) _ count begins v olds past h

pub returns-in-Err-clause-crosses : goal.returns-in-Err-clause-crosses
returns-in-Err-clause-crosses g c s ticks count begins v olds past h =
    ends_so c.args.experiment.now olds past _ v count _ _ c.end_badly.ensures
    (c.in-Err.ensures.goes (record s { t = c.args.point; n = 0 }) _ count begins v olds past h)
