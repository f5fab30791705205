use Rattle.std.proofs.Common.{take}
use Rattle.fmu_description.specs.Marks.{PutsUnder, listed_at}
use Rattle.fmu_description.proofs.ignored.put_under.Given as goal

abbrev pub invariant-loop-reference : goal.invariant-loop-reference
invariant-loop-reference l = PutsUnder (take l.reference-index l.references) l.node (listed_at l.initial.table) (listed_at l.table)
