use Rattle.std.proofs.Common.{ℕ, List, []}
use Rattle.trace_reading.specs.declared.trace.Header.{Header}
use Rattle.trace_stream.specs.Reading.{HasPorts}
use Rattle.trace_stream.proofs.steps.read_ports.Given as goal

abbrev pub invariant-ports : goal.invariant-ports
invariant-ports g l = (bytes : List ℕ) (header : Header) →
    HasPorts bytes header [] (g.B.Read.remaining l.initial.lines.input) l.initial.lines.number →
    HasPorts bytes header l.ports.items (g.B.Read.remaining l.lines.input) l.lines.number
