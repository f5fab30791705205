-- The form of a trace's text: a header line, a line for each port, for each super-dense instant an `at` line with a line for each port that has a value, and an end line.
use Rattle.std.specs.Prelude.{◌≡◌, ◌≢◌, ℕ, ◌+◌, ◌^◌, ◌<◌, ◌≤◌, ℤ, List, [], ◌∷◌, ◌++◌, Option, Some, None, map, length}
use Rattle.std.specs.List.{AllByRecursion, AllZip, flat_map}
use Rattle.value_types.specs.declared.values.PortType.{PortType}
use Rattle.value_types.specs.declared.values.PortType.TheVariants.{Clock}
use Rattle.value_types.specs.Values.{Fits}
use Rattle.system_model.specs.Text.{Instant, header_line, end_line, lines_text}
use Rattle.trace_reading.specs.declared.trace.TracePort.{TracePort}
use Rattle.trace_reading.specs.declared.trace.TraceLine.{TraceLine}
use Rattle.trace_reading.specs.declared.trace.TraceLine.TheVariants.{At, Value}
use Rattle.trace_reading.specs.declared.trace.Trace.{Trace}
use Rattle.trace_reading.specs.Lines.{line_of_port, line_text}

-- ---- instants

-- a line for each port that has a value, whose numbers go on from k
abbrev pub told_values_from : ℕ → List (Option ℤ) → List TraceLine
told_values_from k [] = []
told_values_from k (None ∷ values) = told_values_from (k + 1) values
told_values_from k (Some value ∷ values) = Value k value ∷ told_values_from (k + 1) values

abbrev pub instant_lines : Instant → List TraceLine
instant_lines i = At i.t i.n ∷ told_values_from 0 i.values

-- a port has a value of its type or none; a Clock always has one
abbrev pub MayHave : PortType → Option ℤ → Type 0
MayHave kind None = kind ≢ Clock
MayHave kind (Some value) = Fits kind value

pub record IsInstant (kinds : List PortType) (i : Instant) : Type 0 where
  pub point : i.t ≤ 2 ^ 62
  pub number : i.n < 10000
  pub values : AllZip MayHave kinds i.values

-- ---- ports

abbrev pub kinds_of : List TracePort → List PortType
kinds_of ports = map (λ (p : TracePort). p.kind) ports

-- neither name is empty
pub record IsNamed (p : TracePort) : Type 0 where
  pub component : p.component ≢ []
  pub variable : p.variable ≢ []

-- a line for each port, whose numbers go on from k
abbrev pub lines_of_ports : ℕ → List TracePort → List (List ℕ)
lines_of_ports k [] = []
lines_of_ports k (p ∷ ports) = line_of_port k p ∷ lines_of_ports (k + 1) ports

-- ---- the whole

-- counts in a second, and a range of time, each within its limit
pub record IsRange (resolution start stop : ℕ) : Type 0 where
  pub above : 1 ≤ resolution
  pub within : resolution ≤ 2 ^ 62
  pub order : start ≤ stop
  pub end : stop ≤ 2 ^ 62

-- what a text of this form tells; the number of a port is one of 64 bits, as each number of a text is
pub record IsTrace (t : Trace) : Type 0 where
  pub range : IsRange t.resolution t.start t.stop
  pub few : length t.ports < 2 ^ 64
  pub named : AllByRecursion IsNamed t.ports
  pub instants : List Instant
  pub each : AllByRecursion (IsInstant (kinds_of t.ports)) instants
  pub lines : t.lines ≡ flat_map instant_lines instants
  pub point : t.point ≤ 2 ^ 62

abbrev pub lines_of : Trace → List (List ℕ)
lines_of t =
    header_line t.resolution t.start t.stop ∷
    (lines_of_ports 0 t.ports ++ (map line_text t.lines ++ (end_line t.kind t.point ∷ [])))

-- the bytes are the text of the trace
pub record IsTextOf (bytes : List ℕ) (t : Trace) : Type 0 where
  pub form : IsTrace t
  pub text : bytes ≡ lines_text (lines_of t)
