use Rattle.std.proofs.Common.{◌≡◌, ℕ, List, [], Some, length}
use Rattle.trace_reading.specs.declared.item.Item.{Item}
use Rattle.trace_stream.specs.Streams.{ports_in, Stands}
use Rattle.trace_export.specs.Tables.{written, HasRows}
use Rattle.trace_export.proofs.table.write_rows.Given as goal

abbrev pub invariant-instants : goal.invariant-instants
invariant-instants g l = record {
  ports : ports_in l.stream ≡ ports_in l.initial.stream;
  size : length l.moment.values.items ≡ length l.forms;
  stands : (bytes : List ℕ) → Stands g.B.Read.remaining l.initial.stream bytes [] → (items : List Item) × Stands g.B.Read.remaining l.stream bytes items;
  rows : (bytes before : List ℕ) → Stands g.B.Read.remaining l.initial.stream bytes [] → written g.S.Sink.view l.initial.out ≡ Some before → HasRows g.B.Read.remaining l.stream l.forms l.last l.point bytes before l.row.items (written g.S.Sink.view l.out);
}
