use Rattle.std.proofs.Common.{rules, arith}
use Rattle.sim_base.specs.Escape.{escaped}
use Rattle.trace_reading.proofs.TextLemmas.{lacks_escaped}
use Rattle.trace_reading.proofs.ports.read_port_line.Goals as goal

pub returns-in_default-clause-none : goal.returns-in_default-clause-none
returns-in_default-clause-none c = λ port named e is. let found = c.read_port_fields.ensures.exact c.args.number port.kind (escaped port.component) (escaped port.variable) (omega arith) (lacks_escaped 32 port.component (omega arith)) e in search rules

pub returns-then-k-number-clause-none : goal.returns-then-k-number-clause-none
returns-then-k-number-clause-none c = λ port named e is. let found = c.in-Some.ensures.exact c.args.number port.kind (escaped port.component) (escaped port.variable) (omega arith) (lacks_escaped 32 port.component (omega arith)) e in absurd (c.if-k-number.true found.0)

pub returns-in_default-2-clause-none : goal.returns-in_default-2-clause-none
returns-in_default-2-clause-none c = λ port named e is. let found = c.in-Some.ensures.exact c.args.number port.kind (escaped port.component) (escaped port.variable) (omega arith) (lacks_escaped 32 port.component (omega arith)) e in
    c.name.ensures.none port.component named.component found.2 (search rules)

pub returns-in_default-3-clause-none : goal.returns-in_default-3-clause-none
returns-in_default-3-clause-none c = λ port named e is. let found = c.in-Some.ensures.exact c.args.number port.kind (escaped port.component) (escaped port.variable) (omega arith) (lacks_escaped 32 port.component (omega arith)) e in
    c.name-2.ensures.none port.variable named.variable found.3 (search rules)
