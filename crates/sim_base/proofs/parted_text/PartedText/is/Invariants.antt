use Rattle.std.proofs.Common.{◌≡◌, ◌++◌, ℕ, List}
use Rattle.sim_base.proofs.parted_text.PartedText.is.Given as goal

-- what was compared begins both
abbrev pub invariant-loop-part : goal.invariant-loop-part
invariant-loop-part l = (done : List ℕ) × (l.self ≡ done ++ l.parts.0) × (l.bytes ≡ done ++ l.left)

abbrev pub decreases-loop-part : goal.decreases-loop-part
decreases-loop-part l = l.parts.1
