use Rattle.run_rest.proofs.Parting.{entered, enters}
use Rattle.run_rest.proofs.laws.steps_in_two.Goals as goal

pub returns : goal.returns
returns c = λ r z next. ((λ d. enters d), (λ d. entered d))
