use Rattle.std.proofs.Common.{◌≡◌, length}
use Rattle.fmu_description.proofs.NameLemmas.{HasMarked}
use Rattle.fmu_description.proofs.names.marks.Given as goal

abbrev pub invariant-loop-place : goal.invariant-loop-place
invariant-loop-place l = record {
  len : length l.marks.items ≡ l.len;
  marked : HasMarked l.named l.place l.marks.items;
}
