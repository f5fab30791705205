use Rattle.std.proofs.Common.{◌≡◌, ◌++◌, take, drop}
use Rattle.calling_sequence.proofs.resumption.time_each.Given as goal

abbrev pub invariant-loop-component : goal.invariant-loop-component
invariant-loop-component l = record { timed : l.schedule ≡ record l.initial.schedule { events = take l.component l.events ++ drop l.component l.initial.schedule.events } }
