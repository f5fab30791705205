use Rattle.std.proofs.Common.{rules, arith, ◌≡◌, ◌∙◌, sym, subst, ℕ, [], Err}
use Rattle.system_model.specs.Text.{header_line}
use Rattle.trace_stream.specs.declared.fault.StreamFault.TheVariants.{Line}
use Rattle.trace_stream.specs.Reading.{HasPorts, IsFaultAt}
use Rattle.trace_stream.proofs.StreamLemmas.{header_missing, header_wrong, header_read}
use Rattle.trace_stream.proofs.steps.read_prefix.Goals as goal

pub returns-in_err-advance-clause-fault : goal.returns-in_err-advance-clause-fault
returns-in_err-advance-clause-fault g c = (λ n bytes is told zero.
    let failed : c.advance.result ≡ Err (Line n) = cc (rw is at c.from_residual.ensures.1, c.in_err-advance.was) in
    let at = c.advance.ensures.fault n failed in
    let first : 1 ≡ n = omega (arith, at, zero) in
    let P : ℕ → Type 0 = λ k. IsFaultAt bytes k in
    subst P first (header_missing bytes (g.B.Read.remaining c.args.lines.now.input) told (c.advance.ensures.none n failed)))

pub returns-in_default-clause-fault : goal.returns-in_default-clause-fault
returns-in_default-clause-fault g c = λ n bytes is told zero.
    let same : c.advance.new.self.number ≡ n = cc is in
    let first : 1 ≡ n = omega (arith, c.advance.ensures.number, same, zero) in
    let line : c.deref.result.now ≡ c.advance.new.self.bytes.items = search rules in
    let P : ℕ → Type 0 = λ k. IsFaultAt bytes k in
    subst P first (header_wrong bytes c.advance.new.self.bytes.items (g.B.Read.remaining c.args.lines.now.input) (g.B.Read.remaining c.advance.new.self.input) told c.in_ok-advance.ensures.taken
    (λ resolution start stop range e. let none = c.read_header_line.ensures.none resolution start stop range (line ∙ e) in search rules))

pub returns-in_err-ports-clause-fault : goal.returns-in_err-ports-clause-fault
returns-in_err-ports-clause-fault g c = (λ n bytes is told zero.
    let line : c.advance.new.self.bytes.items ≡ header_line c.in-Some.header.resolution c.in-Some.header.start c.in-Some.header.stop = search rules in
    let P : ℕ → Type 0 = λ k. HasPorts bytes c.in-Some.header [] (g.B.Read.remaining c.advance.new.self.input) k in
    c.read_ports.ensures.fault n bytes c.in-Some.header (cc (rw is at c.from_residual-in_err-ports.ensures.1, c.in_err-ports.was))
    (subst P (sym c.advance.ensures.number) (header_read bytes c.advance.new.self.bytes.items c.in-Some.header (g.B.Read.remaining c.args.lines.now.input) (g.B.Read.remaining c.advance.new.self.input) c.args.lines.now.number told c.in_ok-advance.ensures.taken line c.in-Some.ensures.range zero)))

pub returns-clause-read : goal.returns-clause-read
returns-clause-read g c = λ bytes told zero.
    let line : c.advance.new.self.bytes.items ≡ header_line c.in-Some.header.resolution c.in-Some.header.start c.in-Some.header.stop = search rules in
    let P : ℕ → Type 0 = λ k. HasPorts bytes c.in-Some.header [] (g.B.Read.remaining c.advance.new.self.input) k in
    c.in_ok-ports.ensures.read bytes c.in-Some.header
    (subst P (sym c.advance.ensures.number) (header_read bytes c.advance.new.self.bytes.items c.in-Some.header (g.B.Read.remaining c.args.lines.now.input) (g.B.Read.remaining c.advance.new.self.input) c.args.lines.now.number told c.in_ok-advance.ensures.taken line c.in-Some.ensures.range zero))
