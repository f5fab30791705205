use Rattle.std.proofs.Common.{rules, ◌≡◌, ◌∙◌, refl, sym, ap, subst, ℕ, ℤ, List, [], ◌∷◌, ◌++◌, length, set, Option, Some, None, Err}
use Rattle.std.proofs.lemmas.List.{length-set, length-replicate}
use Rattle.trace_reading.specs.declared.item.Item.{Item}
use Rattle.trace_reading.specs.declared.item.Item.TheVariants.{Row, End}
use Rattle.trace_reading.specs.declared.trace.Header.{Header}
use Rattle.trace_reading.specs.declared.trace.TraceLine.TheVariants.{At, Value}
use Rattle.trace_reading.specs.declared.trace.TracePort.{TracePort}
use Rattle.trace_reading.specs.Form.{instant_lines, kinds_of}
use Rattle.trace_reading.specs.Walk.{place_after}
use Rattle.trace_reading.proofs.CallerLemmas.{unsome}
use Rattle.trace_stream.specs.declared.fault.StreamFault.TheVariants.{Line}
use Rattle.trace_stream.specs.declared.steps.Ahead.{Ahead}
use Rattle.trace_stream.specs.declared.steps.Ahead.TheVariants.{Begin, Finish}
use Rattle.trace_stream.specs.Reading.{item_ahead, place_ahead, HasRead, IsReading, IsWithin}
use Rattle.trace_stream.specs.Streams.{instant_of, rows}
use Rattle.trace_stream.proofs.StreamLemmas.{read_same}
use Rattle.trace_stream.proofs.ValueLemmas.{ahead_place, instant_read, within_more}
use Rattle.trace_stream.proofs.ReadLemmas.{finish_fault, reading_fault, reading_more, start_reading, start_within}
use Rattle.trace_stream.proofs.stream.TraceStream.read.Goals as goal

pub lines-init : goal.lines-init
lines-init g c = record { header = refl; ports = refl; size = refl; point = refl; number = refl; within = λ bytes before within size. within; reading = λ bytes reading. reading }

pub lines-preserved : goal.lines-preserved
lines-preserved g c =
    let remaining = g.B.Read.remaining in
    let header = c.args.self.now.header in
    let ports = c.lines.self.rows.ports in
    let port = c.in-Row-Value.port in
    let v = c.in-Row-Value.value in
    let item : c.in_ok-port.field-0 ≡ Row (Value port v) = cc (c.in-Row-Value.is, c.in-Row-Value.field-0-is) in
    let step : place_after (kinds_of ports) c.lines.self.rows.place (Row (Value port v)) ≡ Some c.next_item.new.rows.place =
    ap (λ (i : Item). place_after (kinds_of ports) c.lines.self.rows.place i) (sym item) ∙ c.in_ok-port.ensures.place in
    let reads : (bytes : List ℕ) (items : List Item) → HasRead bytes header ports items c.lines.self.rows.place (remaining c.lines.self.lines.input) c.lines.self.lines.number → HasRead bytes header ports (items ++ (Row (Value port v) ∷ [])) c.next_item.new.rows.place (remaining c.next_item.new.lines.input) c.next_item.new.lines.number = λ bytes items read.
    let P : Item → Type 0 = λ i. HasRead bytes header ports (items ++ (i ∷ [])) c.next_item.new.rows.place (remaining c.next_item.new.lines.input) c.next_item.new.lines.number in
    subst P item (c.in_ok-port.ensures.read bytes header items read) in
    let put : c.put.new.self.values.items ≡ set c.lines.moment.values.items port (Some v) = search rules in
    record {
      header = c.lines.invariant.header;
      ports = c.next_item.ensures.ports ∙ c.lines.invariant.ports;
      size = ap (λ (vs : List (Option ℤ)). length vs) put ∙ length-set c.lines.moment.values.items port (Some v) ∙ c.lines.invariant.size;
      point = c.put.ensures.point ∙ c.lines.invariant.point;
      number = c.put.ensures.number ∙ c.lines.invariant.number;
      within = λ bytes before within size.
          let now = c.lines.invariant.within bytes before within size in
          let same : length c.lines.moment.values.items ≡ length ports = c.lines.invariant.size ∙ size ∙ ap (λ (ps : List TracePort). length ps) (sym c.lines.invariant.ports) in
          let P : List TracePort → Type 0 = λ ps. IsWithin bytes header ps before c.put.new.self.values.items c.next_item.new.rows.place (remaining c.next_item.new.lines.input) c.next_item.new.lines.number in
          subst P (sym c.next_item.ensures.ports)
          (within_more bytes header ports before c.lines.moment.values.items c.put.new.self.values.items port v c.lines.self.rows.place c.next_item.new.rows.place (remaining c.lines.self.lines.input) (remaining c.next_item.new.lines.input) c.lines.self.lines.number c.next_item.new.lines.number now same step (reads bytes) put);
      reading = λ bytes reading.
          let P : List TracePort → Type 0 = λ ps. IsReading bytes header ps c.next_item.new.rows.place (remaining c.next_item.new.lines.input) c.next_item.new.lines.number in
          subst P (sym c.next_item.ensures.ports)
          (reading_more bytes header ports port v c.lines.self.rows.place c.next_item.new.rows.place (remaining c.lines.self.lines.input) (remaining c.next_item.new.lines.input) c.lines.self.lines.number c.next_item.new.lines.number (c.lines.invariant.reading bytes reading) step (reads bytes));
    }

pub returns-in_err-port-clause-fault : goal.returns-in_err-port-clause-fault
returns-in_err-port-clause-fault g c = λ n bytes before is stands.
    let remaining = g.B.Read.remaining in
    let old = c.args.self.now in
    let failed : c.next_item.result ≡ Err (Line n) = cc (rw is at c.from_residual.ensures.1, c.in_err-port.was) in
    let reading = c.lines.invariant.reading bytes (start_reading bytes old.header old.rows.ports before old.ahead c.in-Begin.t c.in-Begin.n old.rows.place (remaining old.lines.input) old.lines.number stands.read stands.place c.in-Begin.is) in
    reading_fault bytes old.header c.lines.self.rows.ports c.lines.self.rows.place (remaining c.lines.self.lines.input) c.lines.self.lines.number n reading
    (λ items read open_there. c.next_item.ensures.fault n bytes old.header items failed read open_there)

pub returns-in_err-finish-in-End-clause-fault : goal.returns-in_err-finish-in-End-clause-fault
returns-in_err-finish-in-End-clause-fault g c = λ n bytes before is stands.
    let remaining = g.B.Read.remaining in
    let old = c.args.self.now in
    let failed : c.finish.result ≡ Err (Line n) = cc (rw is at c.from_residual-in_err-finish-in-End.ensures.1, c.in_err-finish-in-End.was) in
    let item : c.in_ok-port.field-0 ≡ End c.in-End.kind c.in-End.t = c.in-End.is in
    let reading = c.lines.invariant.reading bytes (start_reading bytes old.header old.rows.ports before old.ahead c.in-Begin.t c.in-Begin.n old.rows.place (remaining old.lines.input) old.lines.number stands.read stands.place c.in-Begin.is) in
    finish_fault bytes old.header c.lines.self.rows.ports (reading.items ++ (c.in_ok-port.field-0 ∷ [])) c.lines.self.rows.place c.next_item.new.rows.place c.in_ok-port.field-0 c.in-End.kind c.in-End.t (remaining c.next_item.new.lines.input) c.next_item.new.lines.number n
    (c.in_ok-port.ensures.read bytes old.header reading.items reading.read) c.in_ok-port.ensures.place item (c.finish.ensures.fault n failed) (c.finish.ensures.more n failed)

pub returns-in-Row-At-clause-told : goal.returns-in-Row-At-clause-told
returns-in-Row-At-clause-told g c = λ bytes before stands size.
    let remaining = g.B.Read.remaining in
    let old = c.args.self.now in
    let moment = c.lines.moment in
    let ports = c.lines.self.rows.ports in
    let ahead : Ahead = Begin c.in-Row-At.t c.in-Row-At.n in
    let item : c.in_ok-port.field-0 ≡ item_ahead ahead = cc (c.in-Row-At.is, c.in-Row-At.field-0-is) in
    let begins : old.ahead ≡ Begin moment.t moment.n = cc (c.in-Begin.is, c.lines.invariant.point, c.lines.invariant.number, c.begin.ensures.point, c.begin.ensures.number) in
    let started = start_within bytes old.header old.rows.ports before old.ahead moment.t moment.n old.rows.place (remaining old.lines.input) old.lines.number c.begin.new.self.values.items (length c.args.moment.now.values.items) stands.read stands.place begins c.begin.ensures.values in
    let sized : length c.begin.new.self.values.items ≡ length old.rows.ports = ap (λ (vs : List (Option ℤ)). length vs) c.begin.ensures.values ∙ length-replicate (length c.args.moment.now.values.items) None ∙ size in
    let within = c.lines.invariant.within bytes (before ++ (Row (At moment.t moment.n) ∷ [])) started sized in
    let step : place_after (kinds_of ports) c.lines.self.rows.place (item_ahead ahead) ≡ Some c.next_item.new.rows.place =
    ap (λ (i : Item). place_after (kinds_of ports) c.lines.self.rows.place i) (sym item) ∙ c.in_ok-port.ensures.place in
    let reads : (items : List Item) → HasRead bytes old.header ports items c.lines.self.rows.place (remaining c.lines.self.lines.input) c.lines.self.lines.number → HasRead bytes old.header ports (items ++ (item_ahead ahead ∷ [])) c.next_item.new.rows.place (remaining c.next_item.new.lines.input) c.next_item.new.lines.number = λ items read.
    let P : Item → Type 0 = λ i. HasRead bytes old.header ports (items ++ (i ∷ [])) c.next_item.new.rows.place (remaining c.next_item.new.lines.input) c.next_item.new.lines.number in
    subst P item (c.in_ok-port.ensures.read bytes old.header items read) in
    let whole = instant_read bytes old.header ports before (instant_of moment) c.lines.self.rows.place c.next_item.new.rows.place ahead (remaining c.lines.self.lines.input) (remaining c.next_item.new.lines.input) c.lines.self.lines.number c.next_item.new.lines.number within reads step in
    let P : List TracePort → Type 0 = λ ps. HasRead bytes old.header ps ((before ++ rows (instant_lines (instant_of moment))) ++ (item_ahead ahead ∷ [])) (place_ahead ahead) (remaining c.next_item.new.lines.input) c.next_item.new.lines.number in
    let Q : Header → Type 0 = λ h. HasRead bytes h c.next_item.new.rows.ports ((before ++ rows (instant_lines (instant_of moment))) ++ (item_ahead ahead ∷ [])) (place_ahead ahead) (remaining c.next_item.new.lines.input) c.next_item.new.lines.number in
    record {
      begins = begins;
      stands = record {
        read = subst Q (sym c.lines.invariant.header) (subst P (sym c.next_item.ensures.ports) whole);
        place = ahead_place (kinds_of ports) c.lines.self.rows.place ahead c.next_item.new.rows.place step;
        last = λ rest is. tt;
      };
    }

pub returns-in-End-clause-told : goal.returns-in-End-clause-told
returns-in-End-clause-told g c = λ bytes before stands size.
    let remaining = g.B.Read.remaining in
    let old = c.args.self.now in
    let moment = c.lines.moment in
    let ports = c.lines.self.rows.ports in
    let ahead : Ahead = Finish c.in-End.kind c.in-End.t in
    let item : c.in_ok-port.field-0 ≡ item_ahead ahead = c.in-End.is in
    let begins : old.ahead ≡ Begin moment.t moment.n = cc (c.in-Begin.is, c.lines.invariant.point, c.lines.invariant.number, c.begin.ensures.point, c.begin.ensures.number) in
    let started = start_within bytes old.header old.rows.ports before old.ahead moment.t moment.n old.rows.place (remaining old.lines.input) old.lines.number c.begin.new.self.values.items (length c.args.moment.now.values.items) stands.read stands.place begins c.begin.ensures.values in
    let sized : length c.begin.new.self.values.items ≡ length old.rows.ports = ap (λ (vs : List (Option ℤ)). length vs) c.begin.ensures.values ∙ length-replicate (length c.args.moment.now.values.items) None ∙ size in
    let within = c.lines.invariant.within bytes (before ++ (Row (At moment.t moment.n) ∷ [])) started sized in
    let step : place_after (kinds_of ports) c.lines.self.rows.place (item_ahead ahead) ≡ Some c.next_item.new.rows.place =
    ap (λ (i : Item). place_after (kinds_of ports) c.lines.self.rows.place i) (sym item) ∙ c.in_ok-port.ensures.place in
    let reads : (items : List Item) → HasRead bytes old.header ports items c.lines.self.rows.place (remaining c.lines.self.lines.input) c.lines.self.lines.number → HasRead bytes old.header ports (items ++ (item_ahead ahead ∷ [])) c.next_item.new.rows.place (remaining c.next_item.new.lines.input) c.next_item.new.lines.number = λ items read.
    let P : Item → Type 0 = λ i. HasRead bytes old.header ports (items ++ (i ∷ [])) c.next_item.new.rows.place (remaining c.next_item.new.lines.input) c.next_item.new.lines.number in
    subst P item (c.in_ok-port.ensures.read bytes old.header items read) in
    let whole = instant_read bytes old.header ports before (instant_of moment) c.lines.self.rows.place c.next_item.new.rows.place ahead (remaining c.lines.self.lines.input) (remaining c.next_item.new.lines.input) c.lines.self.lines.number c.next_item.new.lines.number within reads step in
    let items = (before ++ rows (instant_lines (instant_of moment))) ++ (item_ahead ahead ∷ []) in
    let spent = c.in_ok-finish-in-End.ensures.spent whole.rest whole.left_is in
    let moved = read_same bytes old.header ports items items (place_ahead ahead) (place_ahead ahead) (remaining c.next_item.new.lines.input) (remaining c.finish.new.self.input) c.next_item.new.lines.number c.finish.new.self.number whole refl refl
    (whole.left_is ∙ ap (λ (xs : List ℕ). Some xs) spent.0 ∙ sym spent.1) (sym c.finish.ensures.number) in
    let P : List TracePort → Type 0 = λ ps. HasRead bytes old.header ps items (place_ahead ahead) (remaining c.finish.new.self.input) c.finish.new.self.number in
    let Q : Header → Type 0 = λ h. HasRead bytes h c.next_item.new.rows.ports items (place_ahead ahead) (remaining c.finish.new.self.input) c.finish.new.self.number in
    record {
      begins = begins;
      stands = record {
        read = subst Q (sym c.lines.invariant.header) (subst P (sym c.next_item.ensures.ports) moved);
        place = ahead_place (kinds_of ports) c.lines.self.rows.place ahead c.next_item.new.rows.place step;
        last = λ rest is. sym (unsome [] rest (sym spent.1 ∙ is));
      };
    }
