use Rattle.std.proofs.Common.{◌∙◌, sym}
use Rattle.std.proofs.lemmas.Option.{none-some}
use Rattle.parameter_values.specs.Values.{bit}
use Rattle.transformations.proofs.numbers.read_boolean.Goals as goal

pub returns-in_err-value-clause-exact : goal.returns-in_err-value-clause-exact
returns-in_err-value-clause-exact c = λ value is. absurd (none-some (bit value) (sym c.in_err-value.was ∙ c.read_value.ensures.exact (bit value) is))
