-- A trace as a table, row by row, and what was written so far.
use Rattle.std.specs.Prelude.{◌≡◌, ◌==◌, ◌&&◌, ◌⊎◌, ℕ, Bool, true, false, List, [], ◌∷◌, ◌++◌, Option, Some, None, option_map, if◌then◌else◌}
use Rattle.std.specs.List.{AllZip, concat, flat_map}
use Rattle.sim_base.specs.Sink.{SinkView}
use Rattle.system_model.specs.Text.{Instant}
use Rattle.trace_reading.specs.declared.trace.Trace.{Trace}
use Rattle.trace_reading.specs.declared.trace.TracePort.{TracePort}
use Rattle.trace_reading.specs.Form.{instant_lines, IsTextOf}
use Rattle.trace_stream.specs.declared.stream.TraceStream.{TraceStream}
use Rattle.trace_stream.specs.Streams.{rows, Stands}
use Rattle.trace_export.specs.declared.cells.Form.{Form}
use Rattle.trace_export.specs.declared.output.Output.{Output}
use Rattle.trace_export.specs.Fields.{IsRow}

-- what was written and what is kept back, where the sink tells its bytes
abbrev pub written : {S : Type 0} → (S → SinkView) → Output S → Option (List ℕ)
written view out = option_map (λ bytes. bytes ++ out.bytes.items) (view out.sink).content

-- a time, a comma, and the row of the instant
abbrev pub IsInstantRow : List Form → Instant → List ℕ → Type 0
IsInstantRow forms instant text =
    (time : List ℕ) × (row : List ℕ) × IsRow instant.n forms instant.values row ×
    (text ≡ time ++ (44 ∷ row))

-- whether an instant of the same point follows
abbrev pub follows_at : ℕ → List Instant → Bool
follows_at t [] = false
follows_at t (i ∷ rest) = t == i.t

-- of each point the last instant
abbrev pub last_at_points : List Instant → List Instant
last_at_points [] = []
last_at_points (i ∷ rest) =
    if follows_at i.t rest then last_at_points rest else i ∷ last_at_points rest

abbrev pub shown : Bool → List Instant → List Instant
shown true instants = last_at_points instants
shown false instants = instants

-- after the text before stand the rows of the instants that are shown of the trace that the bytes are the text of, one for each, with each port in the form that is told of it
pub record TellsEach (forms : List TracePort → List Form) (last : Bool) (bytes before : List ℕ)
    (new : Option (List ℕ)) : Type 0 where
  pub trace : Trace
  pub text : IsTextOf bytes trace
  pub instants : List Instant
  pub lines : trace.lines ≡ flat_map instant_lines instants
  pub table : List (List ℕ)
  pub each : AllZip (IsInstantRow (forms trace.ports)) (shown last instants) table
  pub written_is : new ≡ Some (before ++ concat table)

-- ---- the rows so far, of which the last one waits: one of the same point may take its place

-- whether the instant at this point takes the place of the one before
abbrev pub takes_place : Bool → Option ℕ → ℕ → Bool
takes_place last None t = false
takes_place last (Some point) t = last && (point == t)

-- what is shown before an instant
abbrev pub last_before : List Instant → Instant → List Instant
last_before [] i = []
last_before (a ∷ rest) i =
    if follows_at a.t (rest ++ (i ∷ [])) then last_before rest i else a ∷ last_before rest i

abbrev pub shown_before : Bool → List Instant → Instant → List Instant
shown_before true earlier i = last_before earlier i
shown_before false earlier i = earlier

-- no instant was read
pub record HasNone {B : Type 0} (remaining : B → Option (List ℕ)) (stream : TraceStream B)
    (point : Option ℕ) (bytes before row : List ℕ) (new : Option (List ℕ)) : Type 0 where
  pub stands : Stands remaining stream bytes []
  pub at : point ≡ None
  pub waits : row ≡ []
  pub written_is : new ≡ Some before

-- an instant after earlier ones, whose row waits
pub record HasSome {B : Type 0} (remaining : B → Option (List ℕ)) (stream : TraceStream B)
    (forms : List Form) (last : Bool) (point : Option ℕ) (bytes before row : List ℕ)
    (new : Option (List ℕ)) : Type 0 where
  pub earlier : List Instant
  pub instant : Instant
  pub stands : Stands remaining stream bytes
      (rows (flat_map instant_lines (earlier ++ (instant ∷ []))))
  pub at : point ≡ Some instant.t
  pub table : List (List ℕ)
  pub each : AllZip (IsInstantRow forms) (shown_before last earlier instant) table
  pub waits : IsInstantRow forms instant row
  pub written_is : new ≡ Some (before ++ concat table)

abbrev pub HasRows : {B : Type 0} → (B → Option (List ℕ)) → TraceStream B → List Form → Bool →
    Option ℕ → List ℕ → List ℕ → List ℕ → Option (List ℕ) → Type 0
HasRows remaining stream forms last point bytes before row new =
    HasNone remaining stream point bytes before row new ⊎
    HasSome remaining stream forms last point bytes before row new
