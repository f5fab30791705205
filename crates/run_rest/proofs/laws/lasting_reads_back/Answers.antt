use Rattle.run_rest.proofs.Lasts.{FittingLaws, lasting_reads_back}
use Rattle.run_rest.proofs.laws.lasting_reads_back.Goals as goal

pub returns : goal.returns
returns c =
    let laws : FittingLaws = record {
      along = c.situation_laws.ensures.along;
      instant = c.type_laws.ensures.instant;
      initially = c.type_laws.ensures.initially;
    } in
    lasting_reads_back laws
