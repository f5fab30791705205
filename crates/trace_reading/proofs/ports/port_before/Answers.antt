use Rattle.std.proofs.Common.{rules, arith}
use Rattle.trace_reading.specs.Lines.{line_of_port}
use Rattle.trace_reading.proofs.TextLemmas.{is_port_line}
use Rattle.trace_reading.proofs.ports.port_before.Goals as goal

pub returns-in_default-clause-none : goal.returns-in_default-clause-none
returns-in_default-clause-none c = λ port rest named e is. let found = c.split_once.ensures.exact (line_of_port c.args.number port) rest (is_port_line c.args.number port (omega arith)) e in search rules

pub returns-in-None-clause-none : goal.returns-in-None-clause-none
returns-in-None-clause-none c = λ port rest named e is.
    let here = c.in-Some.ensures.exact (line_of_port c.args.number port) rest (is_port_line c.args.number port (omega arith)) e in
    c.read_port_line.ensures.none port named here.0 (search rules)
