use Rattle.description_laws.proofs.ShapeLemmas.{shape_sound}
use Rattle.description_laws.proofs.laws.read_shapes.Goals as goal

pub returns-clause-sound : goal.returns-clause-sound
returns-clause-sound c = λ t per_second shape sound describes. shape_sound t per_second sound shape describes

pub returns-clause-resolution : goal.returns-clause-resolution
returns-clause-resolution c = λ t per_second shape describes. describes.resolution
