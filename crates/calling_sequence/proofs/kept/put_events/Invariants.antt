use Rattle.std.proofs.Common.{◌≡◌, ◌≤◌, ◌++◌, map, take, vec_capacity}
use Rattle.std.specs.List.{flat_map}
use Rattle.run_rest.specs.Snapshot.{time_up_to}
use Rattle.system_checkpoint.specs.Spelling.{option_bytes}
use Rattle.calling_sequence.proofs.kept.put_events.Given as goal

abbrev pub invariant-loop-component : goal.invariant-loop-component
invariant-loop-component l = record {
  text : l.bytes.items ≡ l.initial.bytes.items ++ flat_map option_bytes (take l.component (map (time_up_to l.schedule.stop) l.schedule.events));
  room : vec_capacity l.initial.bytes ≤ vec_capacity l.bytes;
}
