use Rattle.std.proofs.Common.{◌≡◌, ◌≤◌, ◌++◌, Option, take, vec_capacity}
use Rattle.std.specs.Prelude.{All, IfSome}
use Rattle.system_checkpoint.specs.declared.snapshot.ClockTimes.{ClockTimes}
use Rattle.std.specs.List.{flat_map}
use Rattle.event_iteration.specs.Clocks.{timers_in}
use Rattle.system_checkpoint.specs.Spelling.{AreTimes, times_bytes}
use Rattle.calling_sequence.specs.Holding.{by_port, times_of}
use Rattle.calling_sequence.proofs.kept.put_all_times.Given as goal

abbrev pub invariant-loop-place : goal.invariant-loop-place
invariant-loop-place l = record {
  text : l.bytes.items ≡ l.initial.bytes.items ++ flat_map times_bytes (take l.place (by_port times_of l.ports (timers_in l.schedule)));
  bounds : All (λ (times : Option ClockTimes). IfSome times AreTimes) (take l.place (by_port times_of l.ports (timers_in l.schedule)));
  room : vec_capacity l.initial.bytes ≤ vec_capacity l.bytes;
}
