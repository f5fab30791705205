use Rattle.std.proofs.Common.{◌≡◌, ◌++◌, ℕ, ◌<◌, List, length}
use Rattle.std.specs.List.{AllByRecursion}
use Rattle.sim_base.specs.Escape.{escaped}
use Rattle.trace_reading.proofs.NameLemmas.{Left}
use Rattle.trace_reading.proofs.names.name.Given as goal

abbrev pub invariant-loop-rest : goal.invariant-loop-rest
invariant-loop-rest l = record {
  parts : l.fn.word ≡ escaped l.bytes.items ++ l.rest;
  left : (whole : List ℕ) → AllByRecursion (λ (b : ℕ). b < 256) whole → l.fn.word ≡ escaped whole → Left whole l.bytes.items l.rest;
}

abbrev pub decreases-loop-rest : goal.decreases-loop-rest
decreases-loop-rest l = length l.rest
