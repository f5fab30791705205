use Rattle.run_model.proofs.AlongRun.{reply_fits, values_fit, initial_values_fit}
use Rattle.run_model.proofs.laws.type_laws.Goals as goal

pub returns : goal.returns
returns c = record { read = reply_fits; instant = values_fit; initially = initial_values_fit }
