use Rattle.std.proofs.Common.{◌≡◌, take}
use Rattle.calling_sequence.specs.Holding.{clocks_by}
use Rattle.calling_sequence.proofs.resumption.clocks_of.Given as goal

abbrev pub invariant-loop-place : goal.invariant-loop-place
invariant-loop-place l = record { clocks_are : l.clocks.items ≡ take l.place (clocks_by l.ports l.times) }
