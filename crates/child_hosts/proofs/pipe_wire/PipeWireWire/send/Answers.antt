use Rattle.std.proofs.Common.{ℕ, List, None, Option}
use Rattle.sim_base.specs.Sink.{SinkView}
use Rattle.child_hosts.proofs.WireLemmas.{sent_whole}
use Rattle.child_hosts.proofs.pipe_wire.PipeWireWire.send.Goals as goal

abbrev told : Option (List ℕ) → ℕ → SinkView
told content faults = record { content = content; puts = None; faults = faults }

pub returns-in-Ok : goal.returns-in-Ok
returns-in-Ok g c =
    let wire = c.args.self.now in
    let old = told (g.W.Write.contents wire.sink.stream.writer) wire.sink.faults in
    let new = told (g.W.Write.contents c.put.new.self.stream.writer) c.put.new.self.faults in
    record { noted = sent_whole old new (g.R.Read.remaining wire.source.stream.reader) wire.faults c.args.bytes.now c.in-Ok.ensures.noted }
