-- What a stream that stands in a trace's text tells of the whole, for callers.
use Rattle.std.proofs.Common.{◌≡◌, sym, ap, subst, ◌∙◌, ℕ, ◌+◌, List, [], ◌∷◌, ◌++◌, map, Option, Some}
use Rattle.std.proofs.lemmas.List.{append-nil}
use Rattle.system_model.specs.declared.plan.EndKind.{EndKind}
use Rattle.trace_reading.specs.declared.trace.Header.{Header}
use Rattle.trace_reading.specs.declared.trace.TracePort.{TracePort}
use Rattle.trace_reading.specs.declared.trace.TraceLine.{TraceLine}
use Rattle.trace_reading.specs.declared.item.Item.{Item}
use Rattle.trace_reading.specs.declared.item.Place.TheVariants.{Between}
use Rattle.trace_reading.specs.Form.{kinds_of, IsTextOf}
use Rattle.system_model.specs.Text.{lines_text}
use Rattle.trace_reading.specs.Walk.{item_line, items_of, walk, IsRows}
use Rattle.trace_reading.proofs.CallerLemmas.{whole_text, Read}
use Rattle.trace_stream.specs.declared.steps.Ahead.{Ahead}
use Rattle.trace_stream.specs.declared.steps.Ahead.TheVariants.{Finish}
use Rattle.trace_stream.specs.declared.stream.TraceStream.{TraceStream}
use Rattle.trace_stream.specs.Reading.{item_ahead, place_ahead, HasRead, IsLast}
use Rattle.trace_stream.specs.Streams.{rows, Stands}

-- the lines are all that the text tells
read_whole : (bytes : List ℕ) (header : Header) (ports : List TracePort) (lines : List TraceLine) (ahead : Ahead) (kind : EndKind) (t : ℕ) (left : Option (List ℕ)) (number : ℕ) (read : HasRead bytes header ports (rows lines ++ (item_ahead ahead ∷ [])) (place_ahead ahead) left number) → ahead ≡ Finish kind t → read.rest ≡ [] →
    IsTextOf bytes (record { resolution = header.resolution; start = header.start; stop = header.stop; ports = ports; lines = lines; kind = kind; point = t })
read_whole bytes header ports lines ahead kind t left number read is none =
    let items : rows lines ++ (item_ahead ahead ∷ []) ≡ items_of lines kind t = ap (λ (a : Ahead). rows lines ++ (item_ahead a ∷ [])) is in
    let whole : IsRows (kinds_of ports) read.body lines kind t = record {
      parts = read.parts ∙ ap (λ (rest : List ℕ). lines_text (map item_line (rows lines ++ (item_ahead ahead ∷ []))) ++ rest) none ∙ append-nil (lines_text (map item_line (rows lines ++ (item_ahead ahead ∷ [])))) ∙ ap (λ (is : List Item). lines_text (map item_line is)) items;
      good = ap (λ (is : List Item). walk (kinds_of ports) Between is) (sym items) ∙ read.good ∙ ap (λ (a : Ahead). Some (place_ahead a)) is;
    } in
    let prefix : Read bytes header.resolution header.start header.stop ports read.body = record { range = read.range; after_header = read.after; header = read.first; ports_there = read.ports_there } in
    whole_text bytes header.resolution header.start header.stop ports read.body lines kind t prefix whole

pub stands_whole : {B : Type 0} (remaining : B → Option (List ℕ)) (stream : TraceStream B) (bytes : List ℕ) (lines : List TraceLine) (kind : EndKind) (t : ℕ) → Stands remaining stream bytes (rows lines) → stream.ahead ≡ Finish kind t →
    IsTextOf bytes (record { resolution = stream.header.resolution; start = stream.header.start; stop = stream.header.stop; ports = stream.rows.ports; lines = lines; kind = kind; point = t })
stands_whole remaining stream bytes lines kind t stands is =
    let P : Ahead → Type 0 = λ a. IsLast a stands.read.rest in
    read_whole bytes stream.header stream.rows.ports lines stream.ahead kind t (remaining stream.lines.input) stream.lines.number stands.read is (subst P is (stands.last stands.read.rest stands.read.left_is))
