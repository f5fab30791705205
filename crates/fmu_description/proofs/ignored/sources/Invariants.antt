use Rattle.std.proofs.Common.{ℕ, ◌<◌, ◌↔◌}
use Rattle.std.specs.List.{Contains}
use Rattle.fmu_description.specs.Marks.{IsSource}
use Rattle.fmu_description.proofs.ignored.sources.Given as goal

abbrev pub invariant-loop-node : goal.invariant-loop-node
invariant-loop-node l = (k : ℕ) → Contains l.all.items k ↔ ((k < l.node) × IsSource l.tree k)
