use Rattle.held_laws.proofs.BuiltIns.{built_ins_keep_states}
use Rattle.held_laws.proofs.laws.built_ins_keep.Goals as goal

pub returns : goal.returns
returns c = built_ins_keep_states c.asks_within.ensures c.built_in_runs.ensures.behaves c.built_ins_read_back.ensures
