use Rattle.std.proofs.Common.{◌≡◌, ℕ, ◌<◌, Some}
use Rattle.std.specs.List.{slice_get}
use Rattle.trace_reading.specs.declared.trace.TraceLine.TheVariants.{At}
use Rattle.trace_check.proofs.reading.value_lines.Given as goal

abbrev pub invariant-loop-k : goal.invariant-loop-k
invariant-loop-k l = (j t n : ℕ) → j < l.k → slice_get l.lines j ≡ Some (At t n) → ⊥
