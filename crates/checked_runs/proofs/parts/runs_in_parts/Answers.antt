use Rattle.checked_runs.proofs.BuiltIns.{built_ins_go}
use Rattle.checked_runs.proofs.TwoParts.{Laws, runs_in_parts}
use Rattle.checked_runs.proofs.parts.runs_in_parts.Goals as goal

pub returns-clause-parts : goal.returns-clause-parts
returns-clause-parts c =
    let laws : Laws = record {
      one = c.one_trace.ensures;
      steps = c.steps_within.ensures;
      splits = c.splits.ensures;
      two = c.steps_in_two.ensures;
      all = c.checkpoint_laws.ensures.all;
      keeps = c.checkpoint_laws.ensures.keeps;
      few = c.checkpoint_laws.ensures.few;
      fits = c.checkpoint_laws.ensures.fits;
      one_plan = c.plan_laws.ensures.one;
      begins = c.plan_laws.ensures.begins;
    } in
    runs_in_parts laws

pub returns-clause-built_in : goal.returns-clause-built_in
returns-clause-built_in c = built_ins_go c.built_ins_keep.ensures
