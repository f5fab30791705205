use Rattle.std.proofs.Common.{◌+◌, ◌*◌, not, length}
use Rattle.std.specs.List.{count_by}
use Rattle.fmu_description.specs.Marks.{listed_at}
use Rattle.fmu_description.proofs.MarkLemmas.{IsSpreading}
use Rattle.fmu_description.proofs.ignored.ignored_variables.Given as goal

abbrev pub invariant-loop-reference : goal.invariant-loop-reference
invariant-loop-reference l = IsSpreading l.tree l.marks.items l.work.items (listed_at l.followers)

abbrev pub decreases-loop-reference : goal.decreases-loop-reference
decreases-loop-reference l = 2 * count_by not l.marks.items + length l.work.items
