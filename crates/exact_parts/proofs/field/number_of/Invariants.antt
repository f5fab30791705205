use Rattle.std.proofs.Common.{◌≡◌, take}
use Rattle.exact_parts.specs.Field.{number}
use Rattle.exact_parts.proofs.field.number_of.Given as goal

abbrev pub invariant-loop-place : goal.invariant-loop-place
invariant-loop-place l = record { value : l.value ≡ number 0 (take l.place l.bytes) }
