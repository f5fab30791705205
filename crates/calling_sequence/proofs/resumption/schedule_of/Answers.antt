use Rattle.std.proofs.Common.{List, None, ap, ap₂, length, map, subst, sym, ◌∙◌}
use Rattle.std.specs.Prelude.{All}
use Rattle.std.proofs.lemmas.List.{length-replicate}
use Rattle.system_model.specs.declared.system.Port.{Port}
use Rattle.system_checkpoint.specs.declared.snapshot.Arming.{Arming}
use Rattle.system_checkpoint.specs.Spelling.{HasEvent, HasTimes}
use Rattle.system_checkpoint.specs.Whole.{is_asked}
use Rattle.tick_schedule.specs.declared.clock.ClockState.{ClockState}
use Rattle.tick_schedule.specs.declared.clock.TimeClock.{TimeClock as TimedClock}
use Rattle.tick_schedule.specs.Timetable.{IsSoundClock, Timetable, resumed_state}
use Rattle.calling_sequence.specs.Holding.{AreArmable, clocks_by}
use Rattle.calling_sequence.proofs.Resumed.{are_armable, by_len, clocks_sound}
use Rattle.calling_sequence.proofs.resumption.schedule_of.Goals as goal

pub clocks_of-requires : goal.clocks_of-requires
clocks_of-requires c = ap length c.as_slice-2.ensures ∙ by_len (λ (port : Port). HasTimes (is_asked port.role)) c.args.experiment.now.system.ports c.args.held.now.times c.requires.can.times ∙ sym (ap length c.as_slice.ensures)

pub resume-requires-clause-clocks : goal.resume-requires-clause-clocks
resume-requires-clause-clocks c =
    let system = c.args.experiment.now.system in
    let held = c.args.held.now in
    subst (λ (l : List TimedClock). All IsSoundClock l) (sym (c.as_slice-3.ensures.value ∙ c.in_ok-clocks.ensures ∙ ap₂ clocks_by c.as_slice.ensures c.as_slice-2.ensures)) (clocks_sound system held.times c.requires.sound c.requires.can.times)

pub arm_each-requires : goal.arm_each-requires
arm_each-requires c =
    let e = c.args.experiment.now in
    let held = c.args.held.now in
    let clocks = c.as_slice-3.ensures.value ∙ c.in_ok-clocks.ensures ∙ ap₂ clocks_by c.as_slice.ensures c.as_slice-2.ensures in
    let states = ap (λ (t : Timetable). t.clocks) c.in_ok-schedule.ensures ∙ ap (λ (l : List TimedClock). map (resumed_state e.plan.start held.point) l) clocks in
    subst (λ (l : List Arming). AreArmable l c.in_ok-schedule.schedule.clocks) (sym c.as_slice-4.ensures)
    (subst (λ (l : List ClockState). AreArmable held.armings l) (sym states) (are_armable held e.plan.start held.point e.system.ports held.times held.armings c.requires.can.times c.requires.can.armings))

pub time_each-requires : goal.time_each-requires
time_each-requires c =
    let e = c.args.experiment.now in
    let held = c.args.held.now in
    let events = ap (λ (t : Timetable). length t.events) c.arm_each.ensures ∙ ap (λ (t : Timetable). length t.events) c.in_ok-schedule.ensures ∙ length-replicate c.len.result None ∙ c.len.ensures in
    ap length c.as_slice-5.ensures ∙ by_len (HasEvent held) e.system.components held.events c.requires.can.events ∙ sym events
