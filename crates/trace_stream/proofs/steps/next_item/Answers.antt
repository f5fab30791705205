use Rattle.std.proofs.Common.{rules, ◌≡◌, ◌∙◌, sym, subst, ℕ, ◌++◌, ◌∷◌, [], Err}
use Rattle.trace_reading.specs.Walk.{item_line}
use Rattle.trace_stream.specs.declared.fault.StreamFault.TheVariants.{Line}
use Rattle.trace_stream.specs.Reading.{HasRead, IsFaultAt}
use Rattle.trace_stream.proofs.StreamLemmas.{line_read, item_fault, end_fault}
use Rattle.trace_stream.proofs.steps.next_item.Goals as goal

pub returns-in_err-advance-clause-fault : goal.returns-in_err-advance-clause-fault
returns-in_err-advance-clause-fault g c = (λ n bytes header items is read open_there.
    let failed : c.advance.result ≡ Err (Line n) = cc (rw is at c.from_residual.ensures.1, c.in_err-advance.was) in
    let P : ℕ → Type 0 = λ k. IsFaultAt bytes k in
    subst P (sym (c.advance.ensures.fault n failed))
    (end_fault bytes header c.args.rows.now.ports items c.args.rows.now.place (g.B.Read.remaining c.args.lines.now.input) c.args.lines.now.number read (c.advance.ensures.none n failed) open_there))

pub returns-in-Some-clause-read : goal.returns-in-Some-clause-read
returns-in-Some-clause-read g c = λ bytes header items read.
    let is : c.advance.new.self.bytes.items ≡ item_line c.in-Some.item = search rules in
    let P : ℕ → Type 0 = λ k. HasRead bytes header c.args.rows.now.ports (items ++ (c.in-Some.item ∷ [])) c.read.new.self.place (g.B.Read.remaining c.advance.new.self.input) k in
    subst P (sym c.advance.ensures.number)
    (line_read bytes header c.args.rows.now.ports items c.args.rows.now.place c.read.new.self.place (g.B.Read.remaining c.args.lines.now.input) (g.B.Read.remaining c.advance.new.self.input) c.args.lines.now.number c.advance.new.self.bytes.items c.in-Some.item read c.in_ok-advance.ensures.taken is c.in-Some.ensures.place)

pub returns-in-None-clause-fault : goal.returns-in-None-clause-fault
returns-in-None-clause-fault g c = λ n bytes header items is read open_there.
    let same : c.advance.new.self.number ≡ n = cc is in
    let line : c.deref.result.now ≡ c.advance.new.self.bytes.items = search rules in
    let P : ℕ → Type 0 = λ k. IsFaultAt bytes k in
    subst P (sym c.advance.ensures.number ∙ same)
    (item_fault bytes header c.args.rows.now.ports items c.args.rows.now.place (g.B.Read.remaining c.args.lines.now.input) (g.B.Read.remaining c.advance.new.self.input) c.args.lines.now.number c.advance.new.self.bytes.items read c.in_ok-advance.ensures.taken
    (λ item short e. c.in-None.ensures.none item short (line ∙ e)))
