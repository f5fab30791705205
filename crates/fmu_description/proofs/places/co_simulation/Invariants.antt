use Rattle.std.proofs.Common.{◌≡◌, ℕ, ◌<◌, true}
use Rattle.fmu_description.specs.Elements.{is_co_simulation}
use Rattle.fmu_description.proofs.places.co_simulation.Given as goal

abbrev pub invariant-loop-node : goal.invariant-loop-node
invariant-loop-node l = (k : ℕ) → k < l.node → is_co_simulation l.tree k ≡ true → ⊥
