use Rattle.host_edge.proofs.StreamLemmas.{flushed_writer}
use Rattle.host_edge.proofs.streams.WriterStreamStream.flush.Goals as goal

pub returns : goal.returns
returns g c =
    let steady = g.met.W.SteadyWrite.steady c.args.self.now.writer c.flush.new.self in
    flushed_writer _ _ c.flush.result steady c.flush.ensures.bytes
