use Rattle.std.proofs.Common.{arith}
use Rattle.tick_schedule.proofs.ScheduleLemmas.{resumed_near, resumed_sound}
use Rattle.tick_schedule.proofs.schedule.Schedule.resume.Goals as goal

pub of-requires-clause-sound : goal.of-requires-clause-sound
of-requires-clause-sound c = resumed_sound c.args.start c.args.t c.args.clocks.now c.in_ok-states.states.items (omega (arith, c.requires.point, c.requires.stop)) c.requires.clocks c.in_ok-states.ensures

pub of-requires-clause-near : goal.of-requires-clause-near
of-requires-clause-near c = resumed_near c.args.start c.args.t c.args.clocks.now c.in_ok-states.states.items (omega (arith, c.requires.point, c.requires.stop)) c.requires.clocks c.in_ok-states.ensures
