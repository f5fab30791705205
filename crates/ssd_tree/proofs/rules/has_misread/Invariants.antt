use Rattle.std.proofs.Common.{ℕ, ◌<◌, get_or}
use Rattle.ssd_tree.specs.Rules.{IsMisreadChange}
use Rattle.ssd_tree.proofs.rules.has_misread.Given as goal

abbrev pub invariant-loop-child : goal.invariant-loop-child
invariant-loop-child l = (j : ℕ) → j < l.child-index → IsMisreadChange l.tree (get_or l.child-items j 0) → ⊥
