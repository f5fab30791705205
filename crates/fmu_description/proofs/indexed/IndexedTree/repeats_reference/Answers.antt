use Rattle.fmu_description.specs.Elements.{variable_key}
use Rattle.fmu_description.proofs.indexed.IndexedTree.repeats_reference.Goals as goal

pub returns : goal.returns
returns c = c.is_repeated.ensures (variable_key c.args.self.now.tree.now) c.requires.variables c.variable_key.ensures
