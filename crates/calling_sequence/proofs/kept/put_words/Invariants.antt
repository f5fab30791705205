use Rattle.std.proofs.Common.{◌≡◌, ◌≤◌, ◌++◌, map, take, vec_capacity}
use Rattle.std.specs.List.{flat_map}
use Rattle.std.specs.Option.{option_map}
use Rattle.value_types.specs.Values.{word_of}
use Rattle.system_checkpoint.specs.Spelling.{option_bytes}
use Rattle.calling_sequence.proofs.kept.put_words.Given as goal

abbrev pub invariant-loop-place : goal.invariant-loop-place
invariant-loop-place l = record {
  text : l.bytes.items ≡ l.initial.bytes.items ++ flat_map option_bytes (take l.place (map (option_map word_of) l.values));
  room : vec_capacity l.initial.bytes ≤ vec_capacity l.bytes;
}
