use Rattle.std.proofs.Common.{◌≡◌, ◌≤◌, ◌+◌, ◌++◌, map, vec_len, vec_capacity}
use Rattle.std.specs.Vec.Iter.{into_iter_items, into_iter_len}
use Rattle.system_loading.specs.Binding.{documents_of, sets_from, sets_of}
use Rattle.system_loading.proofs.binding.part.Given as goal

abbrev pub invariant-loop-binding : goal.invariant-loop-binding
invariant-loop-binding l = record {
  sets : l.sets.items ++ sets_from (vec_len l.sets) (into_iter_items l.left) ≡ sets_of l.fn.given.items;
  documents : l.documents.items ++ map documents_of (into_iter_items l.left) ≡ map documents_of l.fn.given.items;
  room : vec_len l.sets + into_iter_len l.left ≤ vec_capacity l.sets;
  room_too : vec_len l.documents + into_iter_len l.left ≤ vec_capacity l.documents;
}

abbrev pub decreases-loop-binding : goal.decreases-loop-binding
decreases-loop-binding l = into_iter_len l.left
