-- What the calls of each part of a run make of told machines, by its log alone: the values that it found, the timers, what the answers say, and the states after it (FMI 3.0, 4.2.1; 2.2.9).
use Rattle.std.specs.Prelude.{◌≡◌, ℕ, ◌==◌, ℤ, Bool, List, Option, length}
use Rattle.system_model.specs.Ports.{port_numbers}
use Rattle.system_model.specs.Sound.{IsSound}
use Rattle.run_model.specs.AfterInstant.{any_update, asks_again, asks_for_end, next_events, next_timers, updated, written}
use Rattle.run_model.specs.Equations.{Solves}
use Rattle.run_model.specs.Initial.{SolvesInitially, first_timers, initialized, initializing}
use Rattle.run_model.specs.Machines.{AreMachines, IsSituation}
use Rattle.run_model.specs.Run.{Run, Situation, Timer}
use Rattle.system_model.specs.Values.{value}
use Rattle.run_model.specs.Stepping.{departing}
use Rattle.slot_calls.specs.Log.{Sent}
use Rattle.slot_calls.specs.Replies.{AreReplies, states_by}
use Rattle.slot_calls.specs.Stage.{IsAnswered, shapes_of}
use Rattle.event_iteration.specs.Clocks.{AreTicks}
use Rattle.event_iteration.specs.Explains.{Explains}
use Rattle.event_iteration.specs.Initialization.{initially, no_values}
use Rattle.event_iteration.specs.Instants.{in_instant}
use Rattle.event_iteration.specs.Intervals.{Rearms, first_told, timing_calls}
use Rattle.event_iteration.specs.Settings.{before_step, entered_step, port_order}
use Rattle.event_iteration.specs.Updates.{events_told, updated_by, updating}

-- ---- Initialization Mode

-- the values found are those of a solution of its equations, which the machines have written after the log
pub record FoundInitially (r : Run) (values : List (Option ℤ)) (log : List Sent) : Type 0 where
  pub initial : List (Option ℤ)
  pub solves : SolvesInitially r initial
  pub same : (p : ℕ) → value values p ≡ value initial p
  pub states : states_by r (initializing r) log ≡ initialized r initial

abbrev pub InitialByLog : Type 0
InitialByLog =
    (r : Run) (values : List (Option ℤ)) (log : List Sent) → IsSound r.system → AreMachines r →
    Explains r.system (initially r.system) (no_values r.system)
    (port_numbers r.system.initial_order)
    values log → AreReplies r (initializing r) log → FoundInitially r values log

-- what the fixed and changing Clocks' FMUs answer are the timers of the run, and the states stay
abbrev pub FixedByLog : Type 0
FixedByLog =
    (r : Run) (values : List (Option ℤ)) (log : List Sent) → IsSound r.system → AreMachines r →
    IsAnswered (shapes_of r.system) (timing_calls r.system) log →
    AreReplies r (initialized r values) log →
    (states_by r (initialized r values) log ≡ initialized r values) ×
    (first_told r.plan.resolution r.plan.start r.system log ≡
    first_timers r (initialized r values))

-- ---- an instant

-- with the ticks of its timers the values solve its equations, and the machines with event mode have them written after the log
abbrev pub InstantByLog : Type 0
InstantByLog =
    (r : Run) (s : Situation) (ticks : ℕ → Bool) (values : List (Option ℤ)) (log : List Sent) →
    IsSound r.system → AreMachines r → IsSituation r s →
    AreTicks r.system r.plan.start s.timers s.t s.n ticks →
    length values ≡ length r.system.ports →
    Explains r.system (in_instant ticks (s.n == 0)) s.before (port_numbers r.system.instant_order)
    values
    log → AreReplies r s.states log →
    Solves r s values × (states_by r s.states log ≡ written r s values)

-- what the countdown and changing Clocks' FMUs answer after it makes the timers those of the run, and the states stay
abbrev pub IntervalsByLog : Type 0
IntervalsByLog =
    (r : Run) (s : Situation) (values : List (Option ℤ)) (next : List Timer) (log : List Sent) →
    IsSound r.system → AreMachines r → IsSituation r s →
    Rearms r.system r.plan.resolution s.t values s.timers next log →
    AreReplies r (written r s values) log →
    (states_by r (written r s values) log ≡ written r s values) ×
    (next ≡ next_timers r s values)

-- the Updates lead to the states after it, and their answers say what those of the machines say, event times among it
abbrev pub UpdatesByLog : Type 0
UpdatesByLog =
    (r : Run) (s : Situation) (values : List (Option ℤ)) (log : List Sent) →
    AreMachines r → IsSituation r s →
    IsAnswered (shapes_of r.system) (updating (shapes_of r.system)) log →
    AreReplies r (written r s values) log →
    (states_by r (written r s values) log ≡ (updated r s values).states) ×
    ((updated_by log).again ≡ any_update asks_again r s values) ×
    ((updated_by log).asked ≡ any_update asks_for_end r s values) ×
    (events_told s.t (shapes_of r.system) log ≡ next_events r s values)

-- ---- before a step

-- the Sets after EnterStep lead to the states of its beginning
abbrev pub SetsByLog : Type 0
SetsByLog =
    (r : Run) (s : Situation) (values : List (Option ℤ)) (log : List Sent) → IsSound r.system →
    length s.before ≡ length r.system.ports →
    Explains r.system (before_step s.before) s.before (port_order r.system) values log →
    states_by r (entered_step r s) log ≡ departing r s
