use Rattle.host_edge.proofs.StreamLemmas.{flushed}
use Rattle.host_edge.proofs.streams.write_through.Goals as goal

pub returns-in-Ok : goal.returns-in-Ok
returns-in-Ok g c = flushed _ _ _ c.args.bytes.now c.flush.result c.in-Ok.ensures c.flush.ensures
