-- Systems without transformations: each input has its source's value, no value is lost, and a run has the trace that these definitions give (SSP 1.0: connections; FMI 3.0, 2.1.5: super-dense time).
use Rattle.std.specs.Prelude.{◌≡◌, ◌↔◌, ℕ, suc, ℤ, ◌==◌, ◌&&◌, if◌then◌else◌, List, [], ◌∷◌, length, Option, Some, None}
use Rattle.std.specs.List.{slice_get}
use Rattle.system_model.specs.declared.plan.EndKind.{EndKind}
use Rattle.system_model.specs.declared.system.Feed.{Feed}
use Rattle.system_model.specs.declared.system.Port.{Port}
use Rattle.system_model.specs.declared.system.Role.{Role}
use Rattle.system_model.specs.declared.system.Role.TheVariants.{Input, Output, ClockInput, ClockOutput, TimeClock}
use Rattle.system_model.specs.declared.system.System.{System}
use Rattle.system_model.specs.Needs.{is_unclocked, is_unclocked_at}
use Rattle.system_model.specs.Ports.{feed_of}
use Rattle.system_model.specs.Sound.{IsSound}
use Rattle.system_model.specs.Text.{Instant}
use Rattle.system_model.specs.Values.{value, is_present}
use Rattle.run_model.specs.AfterInstant.{Following, Ended, AtLimit, Again, Done, any_update, asks_for_end, goes_again}
use Rattle.run_model.specs.Equations.{SolvesAt, source_value}
use Rattle.run_model.specs.Initial.{beginning, initial_value}
use Rattle.run_model.specs.Run.{Run, Situation}
use Rattle.run_model.specs.Stepping.{Next, Ends, GoesOn}
use Rattle.run_model.specs.Trace.{IsTrace, LeadsBy, instant_of}

-- no path makes a change of values
abbrev pub HasNoChanges : System → Type 0
HasNoChanges system =
    (p : ℕ) (port : Port) (feed : Feed) → slice_get system.ports p ≡ Some port →
    feed_of port.role ≡ Some feed → feed.changes ≡ []

-- ---- instants

-- an input that is present has its source's value; other equations stay
abbrev pub HandsOnAt : Role → Run → Situation → List (Option ℤ) → ℕ → Port →
    Option ℤ → Option ℤ → Type 0
HandsOnAt (Input None) r s values p port last v = v ≡ None
HandsOnAt (Input (Some feed)) r s values p port last v =
    v ≡ (if is_present port values then source_value feed values else last)
HandsOnAt Output r s values p port last v = SolvesAt Output r s values p port last v
HandsOnAt (ClockInput feed) r s values p port last v =
    SolvesAt (ClockInput feed) r s values p port last v
HandsOnAt ClockOutput r s values p port last v = SolvesAt ClockOutput r s values p port last v
HandsOnAt (TimeClock timing) r s values p port last v =
    SolvesAt (TimeClock timing) r s values p port last v

pub record HandsOn (r : Run) (s : Situation) (values : List (Option ℤ)) : Type 0 where
  pub places : length values ≡ length r.system.ports
  pub equations : (p : ℕ) (port : Port) → slice_get r.system.ports p ≡ Some port →
      HandsOnAt port.role r s values p port (value s.before p) (value values p)

-- what follows where nothing can be lost
abbrev pub following_whole : Run → Situation → List (Option ℤ) → Following
following_whole r s values =
    if any_update asks_for_end r s values then Ended
    else (if goes_again r s values
    then (if suc s.n == r.plan.limit then AtLimit else Again) else Done)

abbrev pub LeadsWhole : Run → Situation → List (Option ℤ) → Next → Type 0
LeadsWhole r s values next = LeadsBy (following_whole r s values) r s values next

-- ---- Initialization Mode

abbrev pub handed_initially : Role → Run → List (Option ℤ) → ℕ → Port → Option ℤ
handed_initially (Input None) r values p port = None
handed_initially (Input (Some feed)) r values p port =
    if is_unclocked port && is_unclocked_at r.system.ports feed.from.0
    then source_value feed values else None
handed_initially Output r values p port = initial_value Output r values p port
handed_initially (ClockInput feed) r values p port = None
handed_initially ClockOutput r values p port = None
handed_initially (TimeClock timing) r values p port = None

pub record HandsOnInitially (r : Run) (values : List (Option ℤ)) : Type 0 where
  pub places : length values ≡ length r.system.ports
  pub equations : (p : ℕ) (port : Port) → slice_get r.system.ports p ≡ Some port →
      value values p ≡ handed_initially port.role r values p port

-- ---- the trace

pub data GoesOnWhole (r : Run) : Situation → List Instant → EndKind → ℕ → Type 0 where
  LastWhole : (s : Situation) (values : List (Option ℤ)) (is : List Instant) (kind : EndKind)
      (end : ℕ) → HandsOn r s values → LeadsWhole r s values (Ends kind end) →
      is ≡ instant_of s values ∷ [] → GoesOnWhole r s is kind end
  FurtherWhole : (s : Situation) (values : List (Option ℤ)) (is : List Instant) (kind : EndKind)
      (end : ℕ) (next : Situation) (rest : List Instant) → HandsOn r s values →
      LeadsWhole r s values (GoesOn next) → is ≡ instant_of s values ∷ rest →
      GoesOnWhole r next rest kind end → GoesOnWhole r s is kind end

pub record IsWholeTrace (r : Run) (is : List Instant) (kind : EndKind) (end : ℕ) : Type 0 where
  pub initial : List (Option ℤ)
  pub hands_on : HandsOnInitially r initial
  pub goes_on : GoesOnWhole r (beginning r initial) is kind end

-- a system without transformations has this trace, and no other
abbrev pub KeepsPlainTraces : Type 0
KeepsPlainTraces =
    (r : Run) → IsSound r.system → HasNoChanges r.system → (is : List Instant) (kind : EndKind)
    (end : ℕ) → IsTrace r is kind end ↔ IsWholeTrace r is kind end
