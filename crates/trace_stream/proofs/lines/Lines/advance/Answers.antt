use Rattle.std.proofs.Common.{rules, ◌≡◌, ◌∙◌, sym, ap, ℕ, List, [], ◌∷◌, ◌++◌, length, None}
use Rattle.std.specs.Io.BufRead.{take_through}
use Rattle.std.proofs.lemmas.Option.{none-some}
use Rattle.trace_stream.proofs.StreamLemmas.{line_cut, lacks_by, no_line}
use Rattle.trace_stream.proofs.lines.Lines.advance.Goals as goal
use Rattle.trace_stream.proofs.lines.Lines.advance.Goals.{in_default-via-in-Some+in_default, in_default-via-in_default}

pub returns-in-Some-eq10-clause-taken : goal.returns-in-Some-eq10-clause-taken
returns-in-Some-eq10-clause-taken g c = λ bytes told.
    let read = rw told at c.in-Ok.ensures.bytes in
    let rest = rw told at c.in-Ok.ensures.rest in
    let popped : take_through 10 bytes ≡ c.pop.new.self.items ++ (10 ∷ []) =
    ap (λ (xs : List ℕ). xs ++ take_through 10 bytes) (sym c.clear.ensures.items) ∙ sym read ∙ c.in-Some-eq10.ensures.items ∙ ap (λ (b : ℕ). c.pop.new.self.items ++ (b ∷ [])) c.in-Some-eq10.field-0-test in
    line_cut bytes c.pop.new.self.items (g.B.Read.remaining c.read_until.new.self) popped rest

pub returns-in_default-clause-none : goal.returns-in_default-clause-none
returns-in_default-clause-none g c = λ n is bytes told.
    let read = rw told at c.in-Ok.ensures.bytes in
    let prefix : take_through 10 bytes ≡ c.read_until.new.buf.items = ap (λ (xs : List ℕ). xs ++ take_through 10 bytes) (sym c.clear.ensures.items) ∙ sym read in
    let empty : c.pop.result ≡ None → length c.pop.new.self.items ≡ 0 = λ none. let size = (rw none at c.pop.ensures.cases).1 in search rules in
    elim c.in_default.branch [
      | in_default-via-in-Some+in_default w ↦ no_line bytes c.pop.new.self.items _ (prefix ∙ w.in_default.ensures.items) w.in_default.field-0-test.1
      | in_default-via-in_default w ↦ lacks_by bytes c.pop.new.self.items c.pop.result (prefix ∙ c.pop.ensures.items) empty (λ ten. none-some 10 (sym w.in_default.is ∙ ten))
    ]
