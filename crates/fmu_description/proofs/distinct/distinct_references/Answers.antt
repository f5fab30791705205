use Rattle.fmu_description.proofs.DistinctLemmas.{references_distinct}
use Rattle.fmu_description.proofs.distinct.distinct_references.Goals as goal

pub returns : goal.returns
returns c = λ t per_second shape sound describes. references_distinct t per_second sound shape.variables describes.variables
