use Rattle.std.proofs.Common.{rules, ◌≡◌, ◌∙◌, sym, ap, subst, ℕ, List, [], ◌∷◌, ◌++◌, Some, Err}
use Rattle.trace_reading.specs.declared.item.Item.{Item}
use Rattle.trace_reading.specs.declared.item.Place.{Place}
use Rattle.trace_reading.specs.declared.item.Place.TheVariants.{Between}
use Rattle.trace_reading.specs.declared.trace.TracePort.{TracePort}
use Rattle.trace_reading.specs.Form.{kinds_of}
use Rattle.trace_reading.specs.Walk.{item_line, place_after}
use Rattle.trace_stream.specs.Reading.{item_ahead, place_ahead, HasRead, IsAfterPorts, IsFaultAt, IsLast}
use Rattle.trace_stream.proofs.StreamLemmas.{first_read, first_fault, read_same}
use Rattle.trace_reading.proofs.CallerLemmas.{unsome}
use Rattle.trace_stream.specs.declared.fault.StreamFault.TheVariants.{Line}
use Rattle.trace_stream.proofs.ValueLemmas.{ahead_place}
use Rattle.trace_stream.proofs.ReadLemmas.{ahead_fault}
use Rattle.trace_stream.proofs.stream.TraceStream.open.Goals as goal

pub returns-clause-stands : goal.returns-clause-stands
returns-clause-stands g c = λ bytes told.
    let remaining = g.B.Read.remaining in
    let at : IsAfterPorts bytes c.in_ok-header.header c.in_ok-header.ports.items c.read_prefix.new.lines.bytes.items (remaining c.read_prefix.new.lines.input) c.read_prefix.new.lines.number =
    c.in_ok-header.ensures.read bytes (ap remaining c.new-lines.ensures.input ∙ told) c.new-lines.ensures.number in
    let ports : c.in_ok-rows.rows.ports ≡ c.in_ok-header.ports.items = search rules in
    let line : c.read_prefix.new.lines.bytes.items ≡ item_line c.in-Some.item = search rules in
    let place : c.in_ok-rows.rows.place ≡ Between = search rules in
    let step : place_after (kinds_of c.in_ok-header.ports.items) Between c.in-Some.item ≡ Some c.read.new.self.place =
    ap (λ (ps : List TracePort). place_after (kinds_of ps) Between c.in-Some.item) (sym ports) ∙ ap (λ (p : Place). place_after (kinds_of c.in_ok-rows.rows.ports) p c.in-Some.item) (sym place) ∙ c.in-Some.ensures.place in
    let read = first_read bytes c.in_ok-header.header c.in_ok-header.ports.items c.read_prefix.new.lines.bytes.items (remaining c.read_prefix.new.lines.input) c.read_prefix.new.lines.number c.in-Some.item c.read.new.self.place at line step in
    let next = c.in_ok-ahead.ensures.last read.rest read.left_is in
    let item = c.in_ok-ahead.ensures.item in
    let there : c.read.new.self.place ≡ place_ahead c.in_ok-ahead.ahead = ahead_place (kinds_of c.in_ok-header.ports.items) Between c.in_ok-ahead.ahead c.read.new.self.place (ap (λ (i : Item). place_after (kinds_of c.in_ok-header.ports.items) Between i) (sym item) ∙ step) in
    let now : c.read.new.self.ports ≡ c.in_ok-header.ports.items = search rules in
    let P : List TracePort → Type 0 = λ ps. HasRead bytes c.in_ok-header.header ps ([] ++ (item_ahead c.in_ok-ahead.ahead ∷ [])) (place_ahead c.in_ok-ahead.ahead) (remaining c.ahead_of.new.lines.input) c.ahead_of.new.lines.number in
    record {
      read = subst P (sym now) (read_same bytes c.in_ok-header.header c.in_ok-header.ports.items (c.in-Some.item ∷ []) ([] ++ (item_ahead c.in_ok-ahead.ahead ∷ [])) c.read.new.self.place (place_ahead c.in_ok-ahead.ahead) (remaining c.read_prefix.new.lines.input) (remaining c.ahead_of.new.lines.input) c.read_prefix.new.lines.number c.ahead_of.new.lines.number read
          (ap (λ (i : Item). i ∷ []) item) there (read.left_is ∙ sym next.0) (sym c.in_ok-ahead.ensures.number));
      place = there;
      last = λ rest is.
          let R : List ℕ → Type 0 = λ xs. IsLast c.in_ok-ahead.ahead xs in
          subst R (unsome read.rest rest (sym next.0 ∙ is)) next.1;
    }

pub returns-in_default-clause-fault : goal.returns-in_default-clause-fault
returns-in_default-clause-fault g c = λ n bytes is told.
    let remaining = g.B.Read.remaining in
    let at : IsAfterPorts bytes c.in_ok-header.header c.in_ok-header.ports.items c.read_prefix.new.lines.bytes.items (remaining c.read_prefix.new.lines.input) c.read_prefix.new.lines.number =
    c.in_ok-header.ensures.read bytes (ap remaining c.new-lines.ensures.input ∙ told) c.new-lines.ensures.number in
    let ports : c.in_ok-rows.rows.ports ≡ c.in_ok-header.ports.items = search rules in
    let place : c.in_ok-rows.rows.place ≡ Between = search rules in
    let line : c.deref.result.now ≡ c.read_prefix.new.lines.bytes.items = search rules in
    let none = rw c.in_default.is at c.read.ensures.none in
    let same : c.read_prefix.new.lines.number ≡ n = cc is in
    let P : ℕ → Type 0 = λ k. IsFaultAt bytes k in
    subst P same (first_fault bytes c.in_ok-header.header c.in_ok-header.ports.items c.read_prefix.new.lines.bytes.items (remaining c.read_prefix.new.lines.input) c.read_prefix.new.lines.number at
    (λ item short e. ap (λ (ps : List TracePort). place_after (kinds_of ps) Between item) (sym ports) ∙ ap (λ (p : Place). place_after (kinds_of c.in_ok-rows.rows.ports) p item) (sym place) ∙ none item short (line ∙ e)))

pub returns-in_err-ahead-clause-fault : goal.returns-in_err-ahead-clause-fault
returns-in_err-ahead-clause-fault g c = λ n bytes is told.
    let remaining = g.B.Read.remaining in
    let failed : c.ahead_of.result ≡ Err (Line n) = cc (rw is at c.from_residual-in_err-ahead.ensures.1, c.in_err-ahead.was) in
    let at : IsAfterPorts bytes c.in_ok-header.header c.in_ok-header.ports.items c.read_prefix.new.lines.bytes.items (remaining c.read_prefix.new.lines.input) c.read_prefix.new.lines.number =
    c.in_ok-header.ensures.read bytes (ap remaining c.new-lines.ensures.input ∙ told) c.new-lines.ensures.number in
    let ports : c.in_ok-rows.rows.ports ≡ c.in_ok-header.ports.items = search rules in
    let line : c.read_prefix.new.lines.bytes.items ≡ item_line c.in-Some.item = search rules in
    let place : c.in_ok-rows.rows.place ≡ Between = search rules in
    let step : place_after (kinds_of c.in_ok-header.ports.items) Between c.in-Some.item ≡ Some c.read.new.self.place =
    ap (λ (ps : List TracePort). place_after (kinds_of ps) Between c.in-Some.item) (sym ports) ∙ ap (λ (p : Place). place_after (kinds_of c.in_ok-rows.rows.ports) p c.in-Some.item) (sym place) ∙ c.in-Some.ensures.place in
    let read = first_read bytes c.in_ok-header.header c.in_ok-header.ports.items c.read_prefix.new.lines.bytes.items (remaining c.read_prefix.new.lines.input) c.read_prefix.new.lines.number c.in-Some.item c.read.new.self.place at line step in
    ahead_fault bytes c.in_ok-header.header c.in_ok-header.ports.items c.in-Some.item c.read.new.self.place (remaining c.read_prefix.new.lines.input) c.read_prefix.new.lines.number n read step (c.ahead_of.ensures.fault n failed)
