use Rattle.std.proofs.Common.{◌≡◌, ℕ, ◌<◌}
use Rattle.std.specs.List.{slice_get}
use Rattle.trace_reading.specs.Written.{ports_told}
use Rattle.trace_check.proofs.ports.first_strange_port.Given as goal

abbrev pub invariant-loop-k : goal.invariant-loop-k
invariant-loop-k l = (j : ℕ) → j < l.k → slice_get l.told j ≡ slice_get (ports_told l.system) j
