use Rattle.std.proofs.Common.{◌≡◌, length, take}
use Rattle.calling_sequence.specs.Holding.{values_by}
use Rattle.calling_sequence.proofs.resumption.values_of.Given as goal

abbrev pub invariant-loop-place : goal.invariant-loop-place
invariant-loop-place l = record { size : length l.values ≡ length l.ports; values_are : take l.place l.values ≡ take l.place (values_by l.ports l.words) }
