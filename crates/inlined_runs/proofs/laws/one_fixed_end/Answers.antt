use Rattle.inlined_runs.proofs.Shorts.{Laws, fixed_once}
use Rattle.inlined_runs.proofs.laws.one_fixed_end.Goals as goal

pub returns : goal.returns
returns c =
    let laws : Laws = record {
      solved = c.one_solution.ensures.instant;
      initially = c.one_solution.ensures.initially;
      next = c.one_next.ensures;
      along = c.situation_laws.ensures.along;
    } in
    fixed_once laws
