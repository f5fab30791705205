use Rattle.std.proofs.Common.{None, ap, ◌∙◌}
use Rattle.std.specs.List.{slice_get}
use Rattle.tick_schedule.specs.Timetable.{Timetable}
use Rattle.calling_sequence.proofs.Resumed.{arms, arms_none, not_yet, placed_at}
use Rattle.system_checkpoint.specs.declared.snapshot.Arming.TheVariants.{At, NoClock}
use Rattle.calling_sequence.proofs.resumption.arm_each.Goals.{in-At, in_default}
use Rattle.calling_sequence.proofs.resumption.arm_each.Goals as goal

pub arm-requires : goal.arm-requires
arm-requires c =
    let k = c.loop-clock.clock in
    let armings = c.args.armings.now in
    let at = placed_at armings k NoClock (At c.in-At.point) c.loop-clock-test.true c.in-At.is in
    (None, ap (λ (t : Timetable). slice_get t.clocks k) c.loop-clock.invariant.armed ∙ not_yet armings c.args.schedule.now.clocks k ∙ c.requires k c.in-At.point at)

pub loop-clock-preserved : goal.loop-clock-preserved
loop-clock-preserved c =
    let k = c.loop-clock.clock in
    let armings = c.args.armings.now in
    let old = c.args.schedule.now in
    let prefix = c.loop-clock.invariant.armed in
    record {
      armed = elim c.match-arming.branch [
        | in-At w ↦ arms armings old c.loop-clock.schedule c.match-arming.schedule k w.in-At.point w.from.result c.loop-clock-test.true w.in-At.is w.from.ensures prefix (w.schedule-is ∙ w.arm.ensures)
        | in_default w ↦ arms_none armings old c.loop-clock.schedule c.match-arming.schedule k c.loop-clock-test.true w.in_default.not-At prefix w.schedule-is
      ];
    }
