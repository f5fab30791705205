use Rattle.std.proofs.Common.{◌≡◌, ◌≤◌, ◌++◌, take, vec_capacity}
use Rattle.std.specs.List.{flat_map}
use Rattle.event_iteration.specs.Clocks.{timers_in}
use Rattle.system_checkpoint.specs.Spelling.{arming_bytes}
use Rattle.calling_sequence.specs.Holding.{arming_of, by_port}
use Rattle.calling_sequence.proofs.kept.put_armings.Given as goal

abbrev pub invariant-loop-place : goal.invariant-loop-place
invariant-loop-place l = record {
  text : l.bytes.items ≡ l.initial.bytes.items ++ flat_map arming_bytes (take l.place (by_port (arming_of l.schedule.stop) l.ports (timers_in l.schedule)));
  room : vec_capacity l.initial.bytes ≤ vec_capacity l.bytes;
}
