use Rattle.std.proofs.Common.{sym, ap, ◌∙◌}
use Rattle.fmi_calls.specs.declared.call.Interval.{Interval}
use Rattle.tick_schedule.specs.Timetable.{with_clock}
use Rattle.event_iteration.specs.Questions.{rearmed}
use Rattle.event_iteration.proofs.Places.{with_same}
use Rattle.event_iteration.proofs.intervals.rearm.Goals as goal

pub returns-in-Unchanged-clause-rearmed : goal.returns-in-Unchanged-clause-rearmed
returns-in-Unchanged-clause-rearmed c place is =
    with_same c.args.schedule.now c.args.p place is ∙ ap (λ (told : Interval). with_clock c.args.schedule.now c.args.p (rearmed c.args.per_second c.args.t told place)) (sym c.in-Unchanged.is)
