use Rattle.std.proofs.Common.{rules, arith, ◌≡◌, ◌∙◌, sym, ap, subst, ℕ, ◌^◌, ◌<◌, [], ◌∷◌, ◌++◌, length, Err}
use Rattle.trace_reading.specs.Lines.{line_of_port}
use Rattle.trace_stream.specs.declared.fault.StreamFault.TheVariants.{Line}
use Rattle.trace_stream.specs.Reading.{HasPorts, IsAfterPorts, IsFaultAt}
use Rattle.trace_stream.proofs.StreamLemmas.{port_read, after_ports, ports_fault}
use Rattle.trace_stream.proofs.steps.read_ports.Goals as goal

pub returns-in_err-advance-clause-fault : goal.returns-in_err-advance-clause-fault
returns-in_err-advance-clause-fault g c = (λ n bytes header is read.
    let failed : c.advance.result ≡ Err (Line n) = cc (rw is at c.from_residual.ensures.1, c.in_err-advance.was) in
    let count : c.len-number.result ≡ length c.ports.ports.items = search rules in
    let few : length c.ports.ports.items < 2 ^ 64 = omega (arith, count) in
    let P : ℕ → Type 0 = λ k. IsFaultAt bytes k in
    subst P (sym (c.advance.ensures.fault n failed))
    (ports_fault bytes header c.ports.ports.items (g.B.Read.remaining c.ports.lines.input) c.ports.lines.number few (c.ports.invariant bytes header read) (c.advance.ensures.none n failed)))

pub returns-in-None-clause-read : goal.returns-in-None-clause-read
returns-in-None-clause-read g c = λ bytes header read.
    let count : c.len-number.result ≡ length c.ports.ports.items = search rules in
    let few : length c.ports.ports.items < 2 ^ 64 = omega (arith, count) in
    let line : c.deref.result.now ≡ c.advance.new.self.bytes.items = search rules in
    let P : ℕ → Type 0 = λ k. IsAfterPorts bytes header c.ports.ports.items c.advance.new.self.bytes.items (g.B.Read.remaining c.advance.new.self.input) k in
    subst P (sym c.advance.ensures.number)
    (after_ports bytes header c.ports.ports.items c.advance.new.self.bytes.items (g.B.Read.remaining c.ports.lines.input) (g.B.Read.remaining c.advance.new.self.input) c.ports.lines.number few (c.ports.invariant bytes header read) c.in_ok-advance.ensures.taken
    (λ port named e. c.read_port_line.ensures.none port named (line ∙ e ∙ ap (λ (k : ℕ). line_of_port k port) (sym count)) (search rules)))

pub ports-preserved : goal.ports-preserved
ports-preserved g c = λ bytes header read.
    let count : c.len-number.result ≡ length c.ports.ports.items = search rules in
    let found = rw c.in-Some.is at c.in_ok-port.ensures.found in
    let line : c.deref.result.now ≡ c.advance.new.self.bytes.items = search rules in
    let is : c.advance.new.self.bytes.items ≡ line_of_port (length c.ports.ports.items) c.in-Some.port = sym line ∙ found.1 ∙ ap (λ (k : ℕ). line_of_port k c.in-Some.port) count in
    let pushed : c.push.new.self.items ≡ c.ports.ports.items ++ (c.in-Some.port ∷ []) = c.in_ok-push-in-Some.ensures.items in
    let P : ℕ → Type 0 = λ k. HasPorts bytes header c.push.new.self.items (g.B.Read.remaining c.advance.new.self.input) k in
    subst P (sym c.advance.ensures.number)
    (port_read bytes header c.ports.ports.items c.push.new.self.items c.in-Some.port c.advance.new.self.bytes.items (g.B.Read.remaining c.ports.lines.input) (g.B.Read.remaining c.advance.new.self.input) c.ports.lines.number (c.ports.invariant bytes header read) c.in_ok-advance.ensures.taken is found.0 pushed)
