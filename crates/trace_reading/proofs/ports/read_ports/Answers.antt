use Rattle.std.proofs.Common.{rules, arith, ◌≡◌, ◌∙◌, sym, ap, ℕ, [], ◌∷◌, ◌++◌, length}
use Rattle.trace_reading.specs.Lines.{line_of_port}
use Rattle.trace_reading.proofs.TableLemmas.{more_ports, more_named}
use Rattle.trace_reading.proofs.ports.read_ports.Goals as goal

pub loop-ports-preserved : goal.loop-ports-preserved
loop-ports-preserved c =
    let number : c.len.result ≡ length c.loop-ports.ports.items = search rules in
    let found = rw c.in-Some.is at c.in_ok-port.ensures.found in
    let pushed : c.push.new.self.items ≡ c.loop-ports.ports.items ++ (c.in-Some.port ∷ []) = c.in_ok-push.ensures.items in
    record {
      parts = more_ports c.args.text.now c.loop-ports.rest.now c.in-Some.after.now c.loop-ports.ports.items c.push.new.self.items c.in-Some.port c.loop-ports.invariant.parts (found.1 ∙ ap (λ (n : ℕ). line_of_port n c.in-Some.port ++ (10 ∷ c.in-Some.after.now)) number) pushed;
      named = more_named c.loop-ports.ports.items c.push.new.self.items c.in-Some.port c.loop-ports.invariant.named found.0 pushed;
    }

pub returns : goal.returns
returns c =
    let number : c.len.result ≡ length c.loop-ports.ports.items = search rules in
    record {
      parts = c.loop-ports.invariant.parts;
      named = c.loop-ports.invariant.named;
      few = omega (arith, number);
      last = λ port more named e. c.in_ok-port.ensures.none port more named (e ∙ ap (λ (n : ℕ). line_of_port n port ++ (10 ∷ more)) (sym number)) (cc c.in_default.is);
    }
