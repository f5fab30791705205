use Rattle.std.proofs.Common.{◌≡◌, ◌≤◌, ◌++◌, take, vec_capacity}
use Rattle.std.specs.List.{flat_map}
use Rattle.system_checkpoint.specs.Spelling.{sized}
use Rattle.system_checkpoint.proofs.putting.put_states.Given as goal

abbrev pub invariant-loop-state : goal.invariant-loop-state
invariant-loop-state l = record {
  text : l.out.items ≡ l.initial.out.items ++ flat_map sized (take l.state-index l.states);
  room : vec_capacity l.initial.out ≤ vec_capacity l.out;
}
