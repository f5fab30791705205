use Rattle.std.proofs.Common.{None, Some}
use Rattle.calling_sequence.proofs.Putting.{armed_there}
use Rattle.calling_sequence.proofs.kept.armed_at.Goals as goal

pub returns-in-Some : goal.returns-in-Some
returns-in-Some c armed at = armed_there c.args.schedule.now c.args.clock (Some c.in-Some.point) armed at c.in-Some.ensures.found tt

pub returns-in-None : goal.returns-in-None
returns-in-None c armed at = armed_there c.args.schedule.now c.args.clock None armed at tt c.in-None.ensures.none
