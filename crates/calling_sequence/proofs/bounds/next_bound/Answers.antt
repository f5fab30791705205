use Rattle.std.proofs.Common.{sym, subst}
use Rattle.run_model.specs.Steps.{IsBound}
use Rattle.event_iteration.specs.Clocks.{timers_in}
use Rattle.calling_sequence.proofs.ScheduleSteps.{bound_alone, bound_tick, events_up_to, none_up_to}
use Rattle.calling_sequence.proofs.bounds.next_bound.Goals as goal

pub next_after-requires-clause-ticks_later : goal.next_after-requires-clause-ticks_later
next_after-requires-clause-ticks_later c = none_up_to c.args.schedule.now c.args.t c.requires.next c.requires.done

pub next_after-requires-clause-events_later : goal.next_after-requires-clause-events_later
next_after-requires-clause-events_later c = events_up_to c.args.schedule.now c.args.t c.requires.later

pub returns-in-Some : goal.returns-in-Some
returns-in-Some c =
    let table = c.args.schedule.now in
    let plan = c.args.plan.now in
    subst (IsBound plan (timers_in table) table.events c.args.t) (sym c.min.ensures)
    (bound_tick table c.args.t c.requires.next c.requires.done plan c.requires.table.0 c.requires.table.1 c.requires.before c.next_mark-mark.result c.next_mark-mark.ensures
    c.in-Some.point c.in-Some.ensures.found c.in-Some.ensures.after c.in-Some.ensures.least_tick c.in-Some.ensures.least_event)

pub returns-in-None : goal.returns-in-None
returns-in-None c =
    bound_alone c.args.schedule.now c.args.t c.requires.next c.requires.done c.args.plan.now c.requires.table.0 c.requires.table.1 c.requires.before c.next_mark-mark.result c.next_mark-mark.ensures
    c.in-None.ensures.no_tick c.in-None.ensures.no_event
