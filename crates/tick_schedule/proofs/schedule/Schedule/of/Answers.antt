use Rattle.std.proofs.Common.{rules, sym, subst, List}
use Rattle.std.specs.List.{All}
use Rattle.tick_schedule.specs.declared.clock.ClockState.{ClockState}
use Rattle.tick_schedule.specs.Points.{IsNear}
use Rattle.tick_schedule.proofs.ScheduleLemmas.{kept_at_first}
use Rattle.tick_schedule.proofs.schedule.Schedule.of.Goals as goal

pub enter_points-requires-clause-near : goal.enter_points-requires-clause-near
enter_points-requires-clause-near c = let P : List ClockState → Type 0 = All IsNear in subst P (sym c.as_slice.ensures.value) c.requires.near

pub invariant_of-result : goal.invariant_of-result
invariant_of-result c =
    let e = c.enter_points.ensures in
    kept_at_first c.args.start c.args.stop c.args.components c.in_ok-count.count c.args.states.items c.as_slice.result.now c.in_ok-events.events.items c.in_ok-points.points c.enter_points.new.points
    c.requires.run c.requires.stop c.requires.sound c.as_slice.ensures.value
    (search rules) (search rules) c.in_ok-points.ensures.same e.len e.entered e.rest
