use Rattle.std.proofs.Common.{refl}
use Rattle.system_model.specs.declared.system.Role.TheVariants.{TimeClock}
use Rattle.system_model.specs.declared.system.Timing.TheVariants.{Answered}
use Rattle.calling_sequence.proofs.Putting.{times_told, times_untold}
use Rattle.calling_sequence.proofs.kept.asked_at.Goals as goal

pub returns-in-Some-clause-times : goal.returns-in-Some-clause-times
returns-in-Some-clause-times c state at of = times_told (TimeClock Answered) state c.in-Some.interval c.in-Some.shift refl of (c.in-Some.ensures.timing state at)

pub returns-in-None-clause-times : goal.returns-in-None-clause-times
returns-in-None-clause-times c state at of = times_untold (TimeClock Answered) state refl of (c.in-None.ensures.timing state at)
