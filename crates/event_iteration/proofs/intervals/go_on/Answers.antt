use Rattle.std.proofs.Common.{sym, ap, ◌∙◌}
use Rattle.tick_schedule.specs.Timetable.{with_clock}
use Rattle.event_iteration.specs.Questions.{ticked_if}
use Rattle.event_iteration.proofs.Answering.{countdown_role, is_changing_after}
use Rattle.event_iteration.proofs.Places.{counts, goes_changing, goes_countdown, goes_else, goes_unasked, is_armable, ticks_next}
use Rattle.event_iteration.proofs.intervals.go_on.Goals as goal

pub returns-then-not-is_time_clock-clause-goes : goal.returns-then-not-is_time_clock-clause-goes
returns-then-not-is_time_clock-clause-goes c =
    (goes_else c.args.schedule.now c.args.role.now c.args.per_second c.args.t c.args.p c.args.value c.args.interval c.requires.place (sym c.is_time_clock.ensures ∙ c.if-not-is_time_clock.true)).0

pub returns-then-not-is_time_clock-clause-armed : goal.returns-then-not-is_time_clock-clause-armed
returns-then-not-is_time_clock-clause-armed c =
    (goes_else c.args.schedule.now c.args.role.now c.args.per_second c.args.t c.args.p c.args.value c.args.interval c.requires.place (sym c.is_time_clock.ensures ∙ c.if-not-is_time_clock.true)).1

pub tick_if-requires : goal.tick_if-requires
tick_if-requires c active =
    ticks_next c.args.schedule.now c.args.role.now c.args.per_second c.args.t c.args.p c.args.value c.args.interval c.requires.place (sym c.is_time_clock.ensures ∙ c.if-not-is_time_clock.false) (sym c.is_active.ensures ∙ active)

pub rearm-requires : goal.rearm-requires
rearm-requires c =
    counts c.args.schedule.now c.args.role.now c.args.per_second c.args.t c.args.p c.args.value c.args.interval c.requires.place (sym c.is_time_clock.ensures ∙ c.if-not-is_time_clock.false)
    c.tick_if.new.schedule (λ place is. c.tick_if.ensures place is ∙ ap (λ b. with_clock c.args.schedule.now c.args.p (ticked_if b place)) c.is_active.ensures) (countdown_role c.args.role.now (sym c.counts_down.ensures ∙ c.if-counts_down.true))

pub returns-then-counts_down-clause-goes : goal.returns-then-counts_down-clause-goes
returns-then-counts_down-clause-goes c =
    (goes_countdown c.args.schedule.now c.args.role.now c.args.per_second c.args.t c.args.p c.args.value c.args.interval c.requires.place (sym c.is_time_clock.ensures ∙ c.if-not-is_time_clock.false)
    c.tick_if.new.schedule (λ place is. c.tick_if.ensures place is ∙ ap (λ b. with_clock c.args.schedule.now c.args.p (ticked_if b place)) c.is_active.ensures) (countdown_role c.args.role.now (sym c.counts_down.ensures ∙ c.if-counts_down.true))
    c.rearm.new.schedule c.rearm.ensures.rearmed c.rearm.result c.rearm.ensures.now).0

pub returns-then-counts_down-clause-armed : goal.returns-then-counts_down-clause-armed
returns-then-counts_down-clause-armed c =
    (goes_countdown c.args.schedule.now c.args.role.now c.args.per_second c.args.t c.args.p c.args.value c.args.interval c.requires.place (sym c.is_time_clock.ensures ∙ c.if-not-is_time_clock.false)
    c.tick_if.new.schedule (λ place is. c.tick_if.ensures place is ∙ ap (λ b. with_clock c.args.schedule.now c.args.p (ticked_if b place)) c.is_active.ensures) (countdown_role c.args.role.now (sym c.counts_down.ensures ∙ c.if-counts_down.true))
    c.rearm.new.schedule c.rearm.ensures.rearmed c.rearm.result c.rearm.ensures.now).1

pub arm_anew-requires : goal.arm_anew-requires
arm_anew-requires c =
    let ticks = (is_changing_after c.args.role.now c.args.value (sym c.counts_down.ensures ∙ c.if-counts_down.false) (sym c.is_asked_after.ensures ∙ c.if-is_asked_after.true)) in
    is_armable c.args.schedule.now c.args.role.now c.args.per_second c.args.t c.args.p c.args.value c.args.interval c.requires.place (sym c.is_time_clock.ensures ∙ c.if-not-is_time_clock.false)
    c.tick_if.new.schedule (λ place is. c.tick_if.ensures place is ∙ ap (λ b. with_clock c.args.schedule.now c.args.p (ticked_if b place)) c.is_active.ensures) ticks.0 ticks.1

pub returns-then-is_asked_after-clause-goes : goal.returns-then-is_asked_after-clause-goes
returns-then-is_asked_after-clause-goes c =
    let ticks = (is_changing_after c.args.role.now c.args.value (sym c.counts_down.ensures ∙ c.if-counts_down.false) (sym c.is_asked_after.ensures ∙ c.if-is_asked_after.true)) in
    (goes_changing c.args.schedule.now c.args.role.now c.args.per_second c.args.t c.args.p c.args.value c.args.interval c.requires.place (sym c.is_time_clock.ensures ∙ c.if-not-is_time_clock.false)
    c.tick_if.new.schedule (λ place is. c.tick_if.ensures place is ∙ ap (λ b. with_clock c.args.schedule.now c.args.p (ticked_if b place)) c.is_active.ensures) ticks.0 ticks.1
    c.arm_anew.new.schedule c.arm_anew.ensures.anew c.arm_anew.result c.arm_anew.ensures.now).0

pub returns-then-is_asked_after-clause-armed : goal.returns-then-is_asked_after-clause-armed
returns-then-is_asked_after-clause-armed c =
    let ticks = (is_changing_after c.args.role.now c.args.value (sym c.counts_down.ensures ∙ c.if-counts_down.false) (sym c.is_asked_after.ensures ∙ c.if-is_asked_after.true)) in
    (goes_changing c.args.schedule.now c.args.role.now c.args.per_second c.args.t c.args.p c.args.value c.args.interval c.requires.place (sym c.is_time_clock.ensures ∙ c.if-not-is_time_clock.false)
    c.tick_if.new.schedule (λ place is. c.tick_if.ensures place is ∙ ap (λ b. with_clock c.args.schedule.now c.args.p (ticked_if b place)) c.is_active.ensures) ticks.0 ticks.1
    c.arm_anew.new.schedule c.arm_anew.ensures.anew c.arm_anew.result c.arm_anew.ensures.now).1

pub returns-clause-goes : goal.returns-clause-goes
returns-clause-goes c =
    (goes_unasked c.args.schedule.now c.args.role.now c.args.per_second c.args.t c.args.p c.args.value c.args.interval c.requires.place (sym c.is_time_clock.ensures ∙ c.if-not-is_time_clock.false)
    c.tick_if.new.schedule (λ place is. c.tick_if.ensures place is ∙ ap (λ b. with_clock c.args.schedule.now c.args.p (ticked_if b place)) c.is_active.ensures) (sym c.is_asked_after.ensures ∙ c.if-is_asked_after.false)).0

pub returns-clause-armed : goal.returns-clause-armed
returns-clause-armed c =
    (goes_unasked c.args.schedule.now c.args.role.now c.args.per_second c.args.t c.args.p c.args.value c.args.interval c.requires.place (sym c.is_time_clock.ensures ∙ c.if-not-is_time_clock.false)
    c.tick_if.new.schedule (λ place is. c.tick_if.ensures place is ∙ ap (λ b. with_clock c.args.schedule.now c.args.p (ticked_if b place)) c.is_active.ensures) (sym c.is_asked_after.ensures ∙ c.if-is_asked_after.false)).1
