use Rattle.std.proofs.Common.{ℕ, ◌<◌, get_or}
use Rattle.flatten.specs.declared.marks.ClassMarks.{ClassMarks}
use Rattle.flatten.specs.Broken.{TellsOther}
use Rattle.flatten.proofs.connectors.FlatTree.is_other_class.Given as goal

abbrev pub invariant-loop-other : goal.invariant-loop-other
invariant-loop-other l = (j : ℕ) (m : ClassMarks) → j < l.other-index → TellsOther l.start l.wanted (get_or l.marks.classes.items j m) → ⊥
