use Rattle.std.proofs.Common.{◌≡◌, map, take}
use Rattle.tick_schedule.specs.Timetable.{resumed_state}
use Rattle.tick_schedule.proofs.schedule.resumed_states.Given as goal

abbrev pub invariant-loop-clock : goal.invariant-loop-clock
invariant-loop-clock l = l.states.items ≡ map (resumed_state l.start l.t) (take l.clock-index l.clocks)
