use Rattle.name_prefixes.proofs.SortLemmas.{AreEntries}
use Rattle.name_prefixes.proofs.prefixes.sorted_entries.Given as goal

abbrev pub invariant-loop-place : goal.invariant-loop-place
invariant-loop-place l = AreEntries l.paths l.place l.entries.items
