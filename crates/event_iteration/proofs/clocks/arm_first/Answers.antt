use Rattle.std.proofs.Common.{ℕ, ◌+◌, Some, sym, ap, ◌∙◌}
use Rattle.tick_schedule.specs.declared.clock.ClockState.TheVariants as S
use Rattle.tick_schedule.specs.Timetable.{with_clock}
use Rattle.run_model.specs.Run.{Once}
use Rattle.run_model.specs.Timers.{armed_after}
use Rattle.event_iteration.proofs.clocks.arm_first.Goals as goal

pub returns : goal.returns
returns c =
    let shift = c.whole_counts-shift.result in
    record {
      shift = shift;
      is = c.arm.ensures ∙ ap (λ (n : ℕ). with_clock c.args.schedule.now c.args.p (S.Countdown (Some (n + shift)))) (c.from.ensures ∙ sym c.requires.start);
      timer_is = ap (armed_after c.args.start) c.whole_counts-shift.ensures.counts ∙ ap (λ (n : ℕ). Once (n + shift)) (sym c.requires.start);
    }
