use Rattle.std.proofs.Common.{◌↔◌, ℕ, List, IsTrue, ◌∙◌, subst}
use Rattle.fmu_description.specs.Elements.{variable_key}
use Rattle.fmu_description.specs.Rules.{NamesNone}
use Rattle.fmu_description.proofs.indexed.IndexedTree.depends_on_nothing.Goals as goal

pub returns : goal.returns
returns c =
    let key = variable_key c.args.self.now.tree.now in
    subst (λ (l : List ℕ). IsTrue c.misses_one.result ↔ NamesNone key l) (c.as_slice.ensures.value ∙ c.in_ok-dependencies.ensures) (c.misses_one.ensures key c.requires.variables)
