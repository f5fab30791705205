use Rattle.std.proofs.Common.{◌≡◌, ℕ, Some, codes, subst, sym, ◌∙◌}
use Rattle.doc_tables.specs.Elements.{attribute}
use Rattle.fmu_description.specs.Elements.{variable_key}
use Rattle.doc_tables.specs.Tables.{Finds}
use Rattle.fmu_description.specs.Places.{found}
use Rattle.fmu_description.proofs.SoundLemmas.{one_variable}
use Rattle.fmu_description.proofs.dependencies.is_exact.Goals as goal

pub returns-in-Some : goal.returns-in-Some
returns-in-Some c =
    let tree = c.args.tree.now in
    let is : found c.args.places.now c.args.reference ≡ Some c.in-Some.node = sym c.find.ensures ∙ c.in-Some.is in
    let first = subst (Finds (variable_key tree) c.args.reference) is (c.requires.places c.args.reference) in (
      λ exact. (c.in-Some.node, first.0, c.is_exact_at.ensures.0 exact),
      λ exact. c.is_exact_at.ensures.1
          (subst (λ (k : ℕ). attribute tree k (codes "initial") ≡ Some (codes "exact"))
          (one_variable tree c.requires.sound c.args.reference exact.0 c.in-Some.node exact.1 first.0) exact.2),
    )
