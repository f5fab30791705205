use Rattle.tick_schedule.proofs.ScheduleLemmas.{first_near, first_sound_all}
use Rattle.tick_schedule.proofs.schedule.Schedule.new.Goals as goal

pub of-requires-clause-sound : goal.of-requires-clause-sound
of-requires-clause-sound c = first_sound_all c.args.clocks.now c.in_ok-states.states.items c.requires.clocks c.in_ok-states.ensures

pub of-requires-clause-near : goal.of-requires-clause-near
of-requires-clause-near c = first_near c.args.clocks.now c.in_ok-states.states.items c.requires.clocks c.in_ok-states.ensures
