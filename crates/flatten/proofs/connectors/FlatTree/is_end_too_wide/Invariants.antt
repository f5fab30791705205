use Rattle.std.proofs.Common.{ℕ, ◌<◌, get_or}
use Rattle.flatten.specs.declared.marks.TypeMarks.{TypeMarks}
use Rattle.flatten.specs.Broken.{TellsTooWide}
use Rattle.flatten.proofs.connectors.FlatTree.is_end_too_wide.Given as goal

abbrev pub invariant-loop-other : goal.invariant-loop-other
invariant-loop-other l = (j : ℕ) (m : TypeMarks) → j < l.other-index → TellsTooWide l.start l.input.kind (get_or l.marks.types.items j m) → ⊥
