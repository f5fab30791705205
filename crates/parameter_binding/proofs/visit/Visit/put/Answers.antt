use Rattle.parameter_binding.proofs.VisitLemmas.{is_taken}
use Rattle.parameter_binding.proofs.visit.Visit.put.Goals as goal

pub returns-in_default : goal.returns-in_default
returns-in_default c = λ t sets binding name change visit sees none.
    let j = is_taken t c.args.shapes.now sets binding name change c.args.self.now visit c.args.target c.unwrap-kind.result c.variable_of-variable.result.now sees c.variable_of-variable.ensures c.unwrap-kind.ensures c.judge.result (c.judge.ensures change visit.ready) none in
    absurd (c.in_default.not-Taken j.0 j.1)
