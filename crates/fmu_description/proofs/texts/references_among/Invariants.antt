use Rattle.std.proofs.Common.{◌≡◌, drop}
use Rattle.fmu_description.proofs.TextLemmas.{after, among}
use Rattle.fmu_description.proofs.texts.references_among.Given as goal

abbrev pub invariant-loop-part : goal.invariant-loop-part
invariant-loop-part l = after l.all.items (among (drop l.part-index l.parts)) ≡ among l.parts
