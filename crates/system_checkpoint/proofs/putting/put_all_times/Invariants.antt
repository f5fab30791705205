use Rattle.std.proofs.Common.{◌≡◌, ◌≤◌, ◌++◌, take, vec_capacity}
use Rattle.std.specs.List.{flat_map}
use Rattle.system_checkpoint.specs.Spelling.{times_bytes}
use Rattle.system_checkpoint.proofs.putting.put_all_times.Given as goal

abbrev pub invariant-loop-value : goal.invariant-loop-value
invariant-loop-value l = record {
  text : l.out.items ≡ l.initial.out.items ++ flat_map times_bytes (take l.value-index l.values);
  room : vec_capacity l.initial.out ≤ vec_capacity l.out;
}
