use Rattle.std.proofs.Common.{◌≡◌, true, false, length, Some, None, refl, sym, ap, ◌∙◌, arith}
use Rattle.std.specs.List.{slice_get}
use Rattle.std.specs.Option.{is_some}
use Rattle.std.proofs.lemmas.Option.{slice_get_read}
use Rattle.doc_tables.specs.Places.{found_in}
use Rattle.doc_tables.proofs.CallerLemmas.{free_from}
use Rattle.flatten.proofs.NameLemmas.{found_within, lead_held, lead_noted}
use Rattle.flatten.proofs.names.VariableNames.note.Goals as goal
use Rattle.flatten.proofs.names.VariableNames.note.Goals.{else-connector-len-via-then-connector-len+else-is_none, else-connector-len-via-else-connector-len}

pub returns-then-is_none : goal.returns-then-is_none
returns-then-is_none c = λ connectors places l.
    let names = c.args.self.now in
    let n = c.in-Some.connector in
    let x = c.index.result.now in
    let found : found_in names.wanted (c.args.component, c.args.name.now) ≡ Some n = sym c.find.ensures ∙ c.in-Some.is in
    let none : x ≡ None = free_from x (is_some x) refl c.if-is_none.ensures in
    let free : slice_get names.places.items n ≡ Some None = slice_get_read names.places.items (length names.places.items) n x refl (omega arith) c.index.ensures ∙ ap Some none in
    lead_noted connectors places c.args.component c.args.place c.args.name.now names l n _ found free refl refl

pub returns-else-connector-len : goal.returns-else-connector-len
returns-else-connector-len c = λ connectors places l.
    let names = c.args.self.now in
    let n = c.in-Some.connector in
    let found : found_in names.wanted (c.args.component, c.args.name.now) ≡ Some n = sym c.find.ensures ∙ c.in-Some.is in
    elim c.else-connector-len.branch [
      | else-connector-len-via-then-connector-len+else-is_none w ↦
          let at : slice_get names.places.items n ≡ Some w.index.result.now = slice_get_read names.places.items (length names.places.items) n w.index.result.now refl (omega arith) w.index.ensures in
          lead_held connectors places c.args.component c.args.place c.args.name.now names l n w.index.result.now found at (λ none.
          let some : is_some w.index.result.now ≡ true = w.if-is_none.ensures in
          let free : is_some w.index.result.now ≡ false = ap is_some none in
          cc)
      | else-connector-len-via-else-connector-len w ↦
          let within = found_within connectors places c.args.component c.args.place c.args.name.now names l n found in
          absurd (omega arith)
    ]
