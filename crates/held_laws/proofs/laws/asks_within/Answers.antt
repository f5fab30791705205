use Rattle.held_laws.proofs.Asking.{asks_on}
use Rattle.held_laws.proofs.laws.asks_within.Goals as goal

pub returns : goal.returns
returns c = asks_on
