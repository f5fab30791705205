use Rattle.std.proofs.Common.{◌≡◌, ℕ, List, length}
use Rattle.trace_reading.specs.declared.item.Item.{Item}
use Rattle.trace_stream.specs.Reading.{IsReading, IsWithin}
use Rattle.trace_stream.proofs.stream.TraceStream.read.Given as goal

abbrev pub invariant-lines : goal.invariant-lines
invariant-lines g l = record {
  header : l.self.header ≡ l.initial.self.header;
  ports : l.self.rows.ports ≡ l.initial.self.rows.ports;
  size : length l.moment.values.items ≡ length l.initial.moment.values.items;
  point : l.moment.t ≡ l.initial.moment.t;
  number : l.moment.n ≡ l.initial.moment.n;
  within : (bytes : List ℕ) (before : List Item) → IsWithin bytes l.initial.self.header l.initial.self.rows.ports before l.initial.moment.values.items l.initial.self.rows.place (g.B.Read.remaining l.initial.self.lines.input) l.initial.self.lines.number
      → length l.initial.moment.values.items ≡ length l.initial.self.rows.ports
      → IsWithin bytes l.initial.self.header l.self.rows.ports before l.moment.values.items l.self.rows.place (g.B.Read.remaining l.self.lines.input) l.self.lines.number;
  reading : (bytes : List ℕ) → IsReading bytes l.initial.self.header l.initial.self.rows.ports l.initial.self.rows.place (g.B.Read.remaining l.initial.self.lines.input) l.initial.self.lines.number
      → IsReading bytes l.initial.self.header l.self.rows.ports l.self.rows.place (g.B.Read.remaining l.self.lines.input) l.self.lines.number;
}
