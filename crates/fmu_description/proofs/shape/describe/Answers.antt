use Rattle.fmu_description.proofs.SoundLemmas.{has_co_simulation}
use Rattle.fmu_description.proofs.shape.describe.Goals as goal

pub unwrap-element-requires : goal.unwrap-element-requires
unwrap-element-requires c = has_co_simulation c.args.tree.now c.args.resolution c.requires.sound c.co_simulation.result c.co_simulation.ensures
