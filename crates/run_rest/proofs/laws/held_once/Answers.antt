use Rattle.run_rest.proofs.Once.{held_once}
use Rattle.run_rest.proofs.Splitting.{Laws}
use Rattle.run_rest.proofs.laws.held_once.Goals as goal

pub returns : goal.returns
returns c =
    let laws : Laws = record {
      solved = c.one_solution.ensures.instant;
      initially = c.one_solution.ensures.initially;
      next = c.one_next.ensures;
      along = c.situation_laws.ensures.along;
    } in
    held_once laws
