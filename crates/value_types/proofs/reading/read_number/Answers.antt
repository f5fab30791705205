use Rattle.std.proofs.Common.{◌≡◌, Some}
use Rattle.value_types.proofs.ValueLemmas.{FitsSigned-from_Fits}
use Rattle.value_types.proofs.reading.read_number.Goals as goal

pub returns-in_err-value-clause-exact : goal.returns-in_err-value-clause-exact
returns-in_err-value-clause-exact c = λ value writes fits.
    let found : c.read_whole.result ≡ Some value = c.read_whole.ensures.exact value writes (FitsSigned-from_Fits c.args.kind value fits) in
    cc c.in_err-value.was
