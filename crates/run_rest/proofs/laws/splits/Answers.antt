use Rattle.run_rest.proofs.Splitting.{Laws, splits}
use Rattle.run_rest.proofs.laws.splits.Goals as goal

pub returns : goal.returns
returns c =
    let laws : Laws = record {
      solved = c.one_solution.ensures.instant;
      initially = c.one_solution.ensures.initially;
      next = c.one_next.ensures;
      along = c.situation_laws.ensures.along;
    } in
    splits laws
