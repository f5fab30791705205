-- Where a stream stands in a trace's text, and what it tells of an instant.
use Rattle.std.specs.Prelude.{◌≡◌, ℕ, List, [], ◌∷◌, ◌++◌, Bool, true, false, Option, Some, map}
use Rattle.system_model.specs.declared.plan.EndKind.{EndKind}
use Rattle.system_model.specs.Text.{Instant}
use Rattle.trace_reading.specs.declared.trace.TraceLine.{TraceLine}
use Rattle.trace_reading.specs.declared.trace.TracePort.{TracePort}
use Rattle.trace_reading.specs.declared.item.Item.{Item}
use Rattle.trace_reading.specs.declared.item.Item.TheVariants.{Row}
use Rattle.trace_reading.specs.Form.{instant_lines}
use Rattle.trace_stream.specs.declared.moment.Moment.{Moment}
use Rattle.trace_stream.specs.declared.steps.Ahead.TheVariants.{Begin, Finish}
use Rattle.trace_stream.specs.declared.stream.TraceStream.{TraceStream}
use Rattle.trace_stream.specs.Reading.{item_ahead, place_ahead, HasRead, IsLast}

abbrev pub instant_of : Moment → Instant
instant_of moment = record { t = moment.t; n = moment.n; values = moment.values.items }

-- the ports, in order
abbrev pub ports_in : {B : Type 0} → TraceStream B → List TracePort
ports_in stream = stream.rows.ports

-- the lines as items
abbrev pub rows : List TraceLine → List Item
rows lines = map (λ (line : TraceLine). Row line) lines

-- after the header and the ports these lines were read, and the one ahead
pub record Stands {B : Type 0} (remaining : B → Option (List ℕ)) (stream : TraceStream B)
    (bytes : List ℕ) (before : List Item) : Type 0 where
  pub read : HasRead bytes stream.header stream.rows.ports (before ++ (item_ahead stream.ahead ∷ []))
      (place_ahead stream.ahead) (remaining stream.lines.input) stream.lines.number
  pub place : stream.rows.place ≡ place_ahead stream.ahead
  pub last : (rest : List ℕ) → remaining stream.lines.input ≡ Some rest → IsLast stream.ahead rest

-- the instant whose line was ahead was read, with its lines
pub record TellsInstant {B : Type 0} (remaining : B → Option (List ℕ)) (old new : TraceStream B)
    (bytes : List ℕ) (before : List Item) (moment : Moment) : Type 0 where
  pub begins : old.ahead ≡ Begin moment.t moment.n
  pub stands : Stands remaining new bytes (before ++ rows (instant_lines (instant_of moment)))

-- an instant, or the end
abbrev pub Tells : {B : Type 0} → (B → Option (List ℕ)) → TraceStream B → TraceStream B → List ℕ →
    List Item → Moment → Bool → Type 0
Tells remaining old new bytes before moment true =
    TellsInstant remaining old new bytes before moment
Tells remaining old new bytes before moment false =
    (kind : EndKind) × (t : ℕ) × (old.ahead ≡ Finish kind t) × (new ≡ old)
