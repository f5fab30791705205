use Rattle.std.proofs.Common.{◌≡◌, ◌++◌, ℕ, List, [], Err, length, refl, sym, ap, subst, ◌∙◌}
use Rattle.std.proofs.lemmas.Result.{on_ok_weaker}
use Rattle.trace_stream.specs.declared.fault.StreamFault.TheVariants as stream
use Rattle.trace_reading.specs.declared.item.Item.{Item}
use Rattle.trace_reading.specs.declared.trace.TracePort.{TracePort}
use Rattle.trace_reading.specs.Form.{instant_lines}
use Rattle.trace_stream.specs.Streams.{instant_of, rows, Stands}
use Rattle.trace_export.specs.Tables.{written, IsInstantRow}
use Rattle.trace_export.proofs.RowLemmas.{has_all, has_more, has_none, passed_row, passes, put_row, tells_next, told_line}
use Rattle.trace_export.proofs.table.write_rows.Goals as goal

pub instants-init : goal.instants-init
instants-init g c = record {
  ports = refl;
  size = c.in_ok-moment.ensures;
  stands = λ bytes stands. ([], stands);
  rows = λ bytes before stands is.
      has_none g.B.Read.remaining c.args.stream.now c.args.forms.now c.args.last bytes before c.new-row.result.items (written g.S.Sink.view c.args.out.now) stands c.new-row.ensures.items is;
}

pub returns-in_err-has_more-clause-fault : goal.returns-in_err-has_more-clause-fault
returns-in_err-has_more-clause-fault g c = λ n bytes is stands.
    let fault = told_line c.in_err-has_more.field-0.0 n (rw is at c.from_residual-in_err-has_more.ensures.1) in
    let failed : c.read.result ≡ Err (stream.Line n) = cc (fault, c.in_err-has_more.was) in
    let (items, there) = c.instants.invariant.stands bytes stands in
    c.read.ensures.fault n bytes items failed there

pub returns-then-not-has_more-clause-rows : goal.returns-then-not-has_more-clause-rows
returns-then-not-has_more-clause-rows g c =
    on_ok_weaker c.flush.result
    (λ kept told bytes before are stands is.
    let same : length c.instants.moment.values.items ≡ length c.instants.stream.rows.ports = c.instants.invariant.size ∙ (c.requires ∙ ap (λ (ps : List TracePort). length ps) (sym c.instants.invariant.ports)) in
    has_all g.B.Read.remaining c.instants.stream c.read.new.self told c.args.forms.now c.args.last c.instants.point bytes before c.instants.row.items c.read.new.moment c.in_ok-has_more.has_more
    (written g.S.Sink.view c.instants.out) (written g.S.Sink.view c.flush.new.self)
    (are ∙ ap told (sym c.instants.invariant.ports)) (c.instants.invariant.rows bytes before stands is) c.if-not-has_more.true
    (λ items there. c.in_ok-has_more.ensures.told bytes items there same)
    (λ text old. passes (g.S.Sink.view c.instants.out.sink).content c.instants.out.bytes.items c.deref.result.now c.extend_from_slice.new.self.items c.instants.row.items text (written g.S.Sink.view c.flush.new.self)
    c.in_ok-extend_from_slice.ensures.items c.deref.ensures.value kept old))
    c.flush.ensures.kept

pub instants-preserved : goal.instants-preserved
instants-preserved g c =
    let same : length c.instants.moment.values.items ≡ length c.instants.stream.rows.ports = c.instants.invariant.size ∙ (c.requires ∙ ap (λ (ps : List TracePort). length ps) (sym c.instants.invariant.ports)) in
    let goes : (bytes : List ℕ) (items : List Item) → Stands g.B.Read.remaining c.instants.stream bytes items → Stands g.B.Read.remaining c.read.new.self bytes (items ++ rows (instant_lines (instant_of c.read.new.moment))) = λ bytes items there.
    tells_next g.B.Read.remaining c.instants.stream c.read.new.self bytes items c.read.new.moment c.in_ok-has_more.has_more c.if-not-has_more.false (c.in_ok-has_more.ensures.told bytes items there same) in
    let (text, it, grown) = c.in_ok-append_instant.ensures in
    let P : List ℕ → Type 0 = λ row. IsInstantRow c.args.forms.now (instant_of c.read.new.moment) row in
    let row : IsInstantRow c.args.forms.now (instant_of c.read.new.moment) c.append_instant.new.out.items = subst P (sym {A = List ℕ} (grown ∙ ap (λ (l : List ℕ). l ++ text) c.clear-in-instants.ensures.items)) it in
    record {
      ports = c.in_ok-has_more.ensures.ports ∙ c.instants.invariant.ports;
      size = c.in_ok-has_more.ensures.size ∙ c.instants.invariant.size;
      stands = λ bytes stands.
          let (items, there) = c.instants.invariant.stands bytes stands in
          (items ++ rows (instant_lines (instant_of c.read.new.moment)), goes bytes items there);
      rows = λ bytes before stands is.
          has_more g.B.Read.remaining c.instants.stream c.read.new.self c.args.forms.now c.args.last c.instants.point bytes before c.instants.row.items c.append_instant.new.out.items c.read.new.moment
          (written g.S.Sink.view c.instants.out) (written g.S.Sink.view c.spill.new.self) c.takes_place.result
          (c.instants.invariant.rows bytes before stands is) c.takes_place.ensures (goes bytes) row
          (λ whole old. passes (g.S.Sink.view c.instants.out.sink).content c.instants.out.bytes.items _ c.pass_row.new.out.items (put_row c.instants.row.items c.takes_place.result) whole (written g.S.Sink.view c.spill.new.self)
          c.in_ok-pass_row.ensures (passed_row c.takes_place.result c.deref-in-instants.result.now c.instants.row.items c.deref-in-instants.ensures.value) c.in_ok-spill.ensures.kept old);
    }
