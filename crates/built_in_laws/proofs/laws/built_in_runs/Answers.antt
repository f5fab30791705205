use Rattle.built_in_laws.proofs.BuiltInRuns.{answer_well, behave_well}
use Rattle.built_in_laws.proofs.Timings.{tells_of_none}
use Rattle.built_in_laws.proofs.laws.built_in_runs.Goals as goal

pub returns-clause-answers : goal.returns-clause-answers
returns-clause-answers c = answer_well

pub returns-clause-behaves : goal.returns-clause-behaves
returns-clause-behaves c = behave_well

pub returns-clause-unclocked : goal.returns-clause-unclocked
returns-clause-unclocked c = tells_of_none
