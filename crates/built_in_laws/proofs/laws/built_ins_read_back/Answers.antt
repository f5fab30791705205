use Rattle.built_in_laws.proofs.Bytes.{read_back}
use Rattle.built_in_laws.proofs.laws.built_ins_read_back.Goals as goal

pub returns : goal.returns
returns c = read_back c.lasting_reads_back.ensures c.states_read_back.ensures
