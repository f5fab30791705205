use Rattle.std.proofs.Common.{◌≡◌, take}
use Rattle.bench_fmus.specs.Packed.{references_from}
use Rattle.bench_fmus.proofs.packed.order_of.Given as goal

abbrev pub invariant-loop-place : goal.invariant-loop-place
invariant-loop-place l = l.order.items ≡ references_from 0 (take l.place l.variables)
