use Rattle.std.proofs.Common.{◌≡◌, Some, subst, sym, ◌∙◌}
use Rattle.fmu_description.specs.Clocks.{IsTimed}
use Rattle.fmu_description.specs.Elements.{variable_key}
use Rattle.doc_tables.specs.Tables.{Finds}
use Rattle.fmu_description.specs.Places.{found}
use Rattle.fmu_description.proofs.SoundLemmas.{one_variable}
use Rattle.fmu_description.proofs.timings.timing_at.Goals as goal

pub timing-requires-clause-timed : goal.timing-requires-clause-timed
timing-requires-clause-timed c =
    let tree = c.args.tree.now in
    let is : found c.args.places.now c.args.reference ≡ Some c.unwrap.result = sym c.find.ensures ∙ c.unwrap.ensures in
    let first = subst (Finds (variable_key tree) c.args.reference) is (c.requires.places c.args.reference) in
    let timed = c.requires.timed in
    subst (IsTimed tree) (one_variable tree c.requires.sound c.args.reference timed.0 c.unwrap.result timed.1 first.0) timed.2
