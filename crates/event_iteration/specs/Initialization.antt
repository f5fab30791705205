-- The turns of Initialization Mode (FMI 3.0, 4.2.1: Initialization Mode; SSP 1.0: connections).
use Rattle.std.specs.Prelude.{◌≡◌, ℕ, ◌<◌, ℤ, Bool, false, not, ◌&&◌, if◌then◌else◌, List, length, map, Option, Some, None, IfSome, slice_index_or}
use Rattle.std.specs.Option.{option_map, option_and_then}
use Rattle.fmi_calls.specs.declared.call.Call.{Call}
use Rattle.fmi_calls.specs.declared.call.Call.TheVariants as C
use Rattle.fmi_calls.specs.declared.call.Reply.{Reply}
use Rattle.fmi_calls.specs.declared.phase.InstanceState.TheVariants as P
use Rattle.fmu_peer.specs.View.{View}
use Rattle.system_model.specs.declared.system.Feed.{Feed}
use Rattle.system_model.specs.declared.system.Role.{Role}
use Rattle.system_model.specs.declared.system.Role.TheVariants.{Input, Output, ClockInput, ClockOutput, TimeClock}
use Rattle.system_model.specs.declared.system.Port.{Port}
use Rattle.system_model.specs.declared.system.System.{System}
use Rattle.system_model.specs.Needs.{is_unclocked, is_unclocked_at}
use Rattle.system_model.specs.Ports.{source_of}
use Rattle.run_model.specs.Equations.{fed, value_in}
use Rattle.run_model.specs.Initial.{is_read}
use Rattle.event_iteration.specs.Turns.{Rules}

-- the value that a reply to a Get carries, if there is one
abbrev pub seen : Port → Option Reply → Option ℤ
seen port reply = option_and_then (value_in port.kind) reply

-- neither the input nor its source has Clocks
abbrev pub is_set_from_feed : List Port → Port → Feed → Bool
is_set_from_feed ports port feed = is_unclocked port && is_unclocked_at ports feed.from.0

-- an input without Clocks is set to what its path makes of its source's value, where the source has no Clocks, and such a source is read
abbrev pub asks_initially : Role → List Port → Bool → Port → List (Option ℤ) → Option Call
asks_initially (Input None) ports read port values = None
asks_initially (Input (Some feed)) ports read port values =
    if is_set_from_feed ports port feed
    then option_map (λ x. C.Set port.kind port.reference x) (fed port.kind feed values) else None
asks_initially Output ports read port values =
    if read then Some (C.Get port.kind port.reference) else None
asks_initially (ClockInput feed) ports read port values = None
asks_initially ClockOutput ports read port values = None
asks_initially (TimeClock timing) ports read port values = None

-- an input that isn't set from its source sends nothing
abbrev pub is_silent_initially : Role → List Port → Port → Bool
is_silent_initially (Input None) ports port = false
is_silent_initially (Input (Some feed)) ports port = not (is_set_from_feed ports port feed)
is_silent_initially Output ports port = false
is_silent_initially (ClockInput feed) ports port = false
is_silent_initially ClockOutput ports port = false
is_silent_initially (TimeClock timing) ports port = false

abbrev pub takes_initially : Role → List Port → Port → List (Option ℤ) → Option Reply → Option ℤ
takes_initially (Input None) ports port values reply = None
takes_initially (Input (Some feed)) ports port values reply =
    if is_set_from_feed ports port feed then fed port.kind feed values else None
takes_initially Output ports port values reply = seen port reply
takes_initially (ClockInput feed) ports port values reply = None
takes_initially ClockOutput ports port values reply = None
takes_initially (TimeClock timing) ports port values reply = None

abbrev pub initially : System → Rules
initially system = record {
  asks =
      λ p port c values. asks_initially port.role system.ports (is_read system.ports p) port values;
  takes = λ p port values last reply. takes_initially port.role system.ports port values reply;
}

-- for each port, whether it is an output that Initialization Mode reads
pub record AreReads (system : System) (reads : List Bool) : Type 0 where
  pub places : length reads ≡ length system.ports
  pub each : (p : ℕ) (d : Bool) → p < length reads →
      slice_index_or reads p d ≡ is_read system.ports p

-- the source of a port is among n ports
abbrev pub IsPlaced : ℕ → Port → Type 0
IsPlaced n port = IfSome (source_of port.role) (λ q. q < n)

-- in Initialization Mode
abbrev pub IsInInitialization : View → Type 0
IsInInitialization v = v.phase.state ≡ P.Initialization

-- before it no port has a value
abbrev pub no_values : System → List (Option ℤ)
no_values system = map (λ (port : Port). None) system.ports

-- the output that Initialization Mode reads for a port
abbrev pub read_by : List Port → Role → Port → Option ℕ
read_by ports (Input None) port = None
read_by ports (Input (Some feed)) port =
    if is_set_from_feed ports port feed then Some feed.from.0 else None
read_by ports Output port = None
read_by ports (ClockInput feed) port = None
read_by ports ClockOutput port = None
read_by ports (TimeClock timing) port = None
