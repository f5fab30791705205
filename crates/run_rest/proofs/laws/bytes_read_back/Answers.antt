use Rattle.run_rest.proofs.Reading.{bytes_read_back}
use Rattle.run_rest.proofs.laws.bytes_read_back.Goals as goal

pub returns : goal.returns
returns c = bytes_read_back c.situation_laws.ensures.along c.situation_laws.ensures.instant
