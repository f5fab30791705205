use Rattle.std.proofs.Common.{◌≡◌, ◌-◌, take}
use Rattle.exact_parts.specs.Field.{Stands, number, worth}
use Rattle.exact_parts.proofs.field.take_by_bytes.Given as goal

abbrev pub invariant-loop-place : goal.invariant-loop-place
invariant-loop-place l = record {
  prefix : l.prefix ≡ number 0 (take l.place l.bytes);
  stands : Stands (worth (l.size - l.place)) l.spans l.prefix;
}
