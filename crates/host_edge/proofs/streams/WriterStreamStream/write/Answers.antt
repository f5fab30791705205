use Rattle.host_edge.proofs.StreamLemmas.{written_writer}
use Rattle.host_edge.proofs.streams.WriterStreamStream.write.Goals as goal

pub returns : goal.returns
returns g c =
    let steady = g.met.W.SteadyWrite.steady c.args.self.now.writer c.write.new.self in
    written_writer _ _ c.args.bytes.now c.write.result steady c.write.ensures.bound c.write.ensures.bytes
