use Rattle.std.proofs.Common.{Bool, sym, ap, ◌∙◌}
use Rattle.tick_schedule.specs.Timetable.{with_clock}
use Rattle.event_iteration.specs.Questions.{ticked_if}
use Rattle.event_iteration.proofs.Places.{with_same}
use Rattle.event_iteration.proofs.intervals.tick_if.Goals as goal

pub returns-else-ticks : goal.returns-else-ticks
returns-else-ticks c place is =
    with_same c.args.schedule.now c.args.p place is ∙ ap (λ (b : Bool). with_clock c.args.schedule.now c.args.p (ticked_if b place)) (sym c.if-ticks.false)
