use Rattle.std.proofs.Common.{ap, length, take, ◌∙◌}
use Rattle.fmu_link.specs.Wire.{wire_view}
use Rattle.child_hosts.proofs.WireLemmas.{fills_ended, fills_failed, received_less, received_part, received_whole}
use Rattle.child_hosts.proofs.pipe_wire.PipeWireWire.receive.Goals as goal

pub returns-in-Ok : goal.returns-in-Ok
returns-in-Ok g c =
    let wire = c.args.self.now in
    let reader = c.fill.new.source.stream.reader in
    let steady = g.met.R.SteadyRead.steady wire.source.stream.reader reader in
    record { noted = received_whole (g.R.Read.remaining wire.source.stream.reader) (g.R.Read.remaining reader) (g.W.Write.contents wire.sink.stream.writer) wire.faults c.fill.new.into steady c.in-Ok.ensures }

pub returns-in-Err-Ended : goal.returns-in-Err-Ended
returns-in-Err-Ended g c =
    let wire = c.args.self.now in
    let old = g.R.Read.remaining wire.source.stream.reader in
    let reader = c.fill.new.source.stream.reader in
    let new = g.R.Read.remaining reader in
    let steady = g.met.R.SteadyRead.steady wire.source.stream.reader reader in
    let out = fills_ended (Unit {0}) old new c.fill.new.into c.in-Err-Ended.field-0 c.in-Err-Ended.field-0-is c.in-Err-Ended.ensures in
    record { noted = received_less old new (g.W.Write.contents wire.sink.stream.writer) wire.faults c.fill.new.into steady out }

pub returns-in-Err-Failed : goal.returns-in-Err-Failed
returns-in-Err-Failed g c =
    let wire = c.args.self.now in
    let old = g.R.Read.remaining wire.source.stream.reader in
    let reader = c.fill.new.source.stream.reader in
    let mid = g.R.Read.remaining reader in
    let sent = g.W.Write.contents wire.sink.stream.writer in
    let steady = g.met.R.SteadyRead.steady wire.source.stream.reader reader in
    let part = fills_failed (Unit {0}) old mid c.fill.new.into c.in-Err-Failed.field-0 c.in-Err-Failed.field-0-is c.in-Err-Failed.ensures in
    let new = c.fail.new.self in
    record {
      noted = (
        length (take part.0 c.fill.new.into),
        ap (λ source. wire_view (g.W.Write.contents new.sink.stream.writer) (g.R.Read.remaining source.stream.reader) new.faults) c.fail.ensures.kept.0
            ∙ ap (λ sink. wire_view (g.W.Write.contents sink.stream.writer) mid new.faults) c.fail.ensures.kept.1
            ∙ ap (wire_view sent mid) c.fail.ensures.rose
            ∙ received_part old mid sent wire.faults (take part.0 c.fill.new.into) steady part.1,
      );
    }
