-- Which calls one FMU has of a walk, and how they are answered, for any replies (FMI 3.0, 4.2.1; 2.2.9: intervals of Clocks).
use Rattle.std.specs.Prelude.{◌≡◌, ℕ, ℤ, ◌<◌, ◌≤◌, ◌==◌, Bool, true, false, if◌then◌else◌, List, [], ◌∷◌, ◌++◌, All, Option, length}
use Rattle.std.specs.List.{slice_get}
use Rattle.std.specs.Option.{option_map_or}
use Rattle.value_types.specs.declared.shape.Shape.{Shape}
use Rattle.fmi_calls.specs.declared.call.Call.{Call}
use Rattle.fmi_calls.specs.declared.call.Call.TheVariants as C
use Rattle.fmu_peer.specs.Lean.{NoneTwiceAfter}
use Rattle.system_model.specs.declared.system.Component.{Component}
use Rattle.system_model.specs.declared.system.System.{System}
use Rattle.system_model.specs.Ports.{port_numbers}
use Rattle.system_model.specs.Sound.{IsSound}
use Rattle.slot_calls.specs.declared.bad_answer.BadAnswer.{BadAnswer}
use Rattle.slot_calls.specs.Log.{ComponentCall, Sent, component_calls}
use Rattle.slot_calls.specs.Stage.{IsFirst, IsGoodOf, shapes_of}
use Rattle.event_iteration.specs.Explains.{Explains, ExplainsUntil}
use Rattle.event_iteration.specs.Initialization.{initially}
use Rattle.event_iteration.specs.Instants.{in_instant}
use Rattle.event_iteration.specs.Intervals.{intervals, timing_calls}
use Rattle.event_iteration.specs.Settings.{before_step, port_order}
use Rattle.event_iteration.specs.Turns.{Rules}

-- ---- the calls of one FMU

-- those to it
abbrev pub own : ℕ → List ComponentCall → List Call
own k [] = []
own k (a ∷ calls) = if a.component == k then a.call ∷ own k calls else own k calls

-- whether it is there and has event mode
abbrev pub has_events_at : System → ℕ → Bool
has_events_at system k =
    option_map_or (λ (c : Component). c.shape.has_event_mode) (slice_get system.components k) false

-- what a call does with the port that it names: it reads it (1), sets it (2), or asks for its interval or shift (3); any other names none (0)
abbrev pub use_in : Call → ℕ
use_in (C.Get kind reference) = 1
use_in (C.GetClock reference) = 1
use_in (C.Set kind reference value) = 2
use_in (C.SetClock reference) = 2
use_in (C.GetInterval reference) = 3
use_in (C.GetShift reference) = 3
use_in call = 0

-- uses from one on, and below another
pub record Span : Type 0 where
  pub from : ℕ
  pub below : ℕ

pub record IsUse (span : Span) (call : Call) : Type 0 where
  pub from : span.from ≤ use_in call
  pub below : use_in call < span.below

-- calls of such uses; after others of earlier uses none of them stands twice
pub record AreNew (span : Span) (calls : List Call) : Type 0 where
  pub names : 0 < span.from
  pub uses : All (IsUse span) calls
  pub once : (seen : List Call) → All (λ (c : Call). use_in c < span.from) seen →
      NoneTwiceAfter seen calls

-- ---- walks

-- by this log a walk went through the order, or up to a bad answer
pub data WalksBy (system : System) (rules : Rules) (before : List (Option ℤ))
    (order : List ℕ) : List Sent → Type 0 where
  Whole : (values : List (Option ℤ)) (log : List Sent) →
      Explains system rules before order values log → WalksBy system rules before order log
  Prefix : (bad : BadAnswer) (values : List (Option ℤ)) (log : List Sent) →
      ExplainsUntil system rules before order bad values log →
      WalksBy system rules before order log

-- of a walk by these rules an FMU with event mode, or without, has such calls
abbrev pub WalkUses : System → Rules → List ℕ → (Bool → Span) → Type 0
WalkUses system rules order span =
    (before : List (Option ℤ)) (log : List Sent) → WalksBy system rules before order log →
    (k : ℕ) → AreNew (span (has_events_at system k)) (own k (component_calls log))

-- in Initialization Mode it is read and set
abbrev pub initial_span : Bool → Span
initial_span has_event_mode = record { from = 1; below = 3 }

-- so it is in an instant; without event mode it is read in the first at a point
abbrev pub instant_span : Bool → Bool → Span
instant_span is_first true = record { from = 1; below = 3 }
instant_span true false = record { from = 1; below = 2 }
instant_span false false = record { from = 2; below = 2 }

-- with event mode it is asked for intervals after an instant
abbrev pub interval_span : Bool → Span
interval_span true = record { from = 3; below = 4 }
interval_span false = record { from = 2; below = 2 }

-- without event mode it is set before a step
abbrev pub step_span : Bool → Span
step_span true = record { from = 2; below = 2 }
step_span false = record { from = 2; below = 3 }

abbrev pub timing_span : Span
timing_span = record { from = 3; below = 4 }

-- the walks of a sound system, and its questions for the timing of fixed and changing Clocks
pub record UsesAre (system : System) : Type 0 where
  pub initial : WalkUses system (initially system) (port_numbers system.initial_order) initial_span
  pub instant : (ticks : ℕ → Bool) (is_first : Bool) →
      WalkUses system (in_instant ticks is_first) (port_numbers system.instant_order)
      (instant_span is_first)
  pub interval : (values : List (Option ℤ)) →
      WalkUses system (intervals values) (port_order system) interval_span
  pub step : (values : List (Option ℤ)) →
      WalkUses system (before_step values) (port_order system) step_span
  pub timing : (k : ℕ) → AreNew timing_span (own k (timing_calls system))

abbrev pub EachCallOnce : Type 0
EachCallOnce = (system : System) → IsSound system → UsesAre system

-- ---- answers

-- the last answer, of a component that is there, is the first that isn't good
pub record LastIsBad (shapes : List Shape) (bad : BadAnswer) (log : List Sent) : Type 0 where
  pub prefix : List Sent
  pub last : Sent
  pub log_is : log ≡ prefix ++ last ∷ []
  pub first : IsFirst shapes bad prefix last
  pub within : last.component < length shapes

-- the answers of a walk are good, or those up to the last
pub record WalkAnswers (system : System) (rules : Rules) (before : List (Option ℤ))
    (order : List ℕ) (values : List (Option ℤ)) (log : List Sent) : Type 0 where
  pub good : Explains system rules before order values log → All (IsGoodOf (shapes_of system)) log
  pub bad : (bad : BadAnswer) → ExplainsUntil system rules before order bad values log →
      LastIsBad (shapes_of system) bad log

abbrev pub LastAloneIsBad : Type 0
LastAloneIsBad =
    (system : System) (rules : Rules) (before : List (Option ℤ)) (order : List ℕ)
    (values : List (Option ℤ)) (log : List Sent) →
    WalkAnswers system rules before order values log
