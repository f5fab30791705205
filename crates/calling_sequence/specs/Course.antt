-- The run of a system by its plan, for any replies, part by part (FMI 3.0, 4.2.1: the calling sequence of Co-Simulation).
use Rattle.std.specs.Prelude.{◌≡◌, ℕ, suc, ℤ, ◌<◌, ◌==◌, ◌||◌, Bool, true, false, List, [], ◌∷◌, ◌++◌, Option, length}
use Rattle.std.specs.List.{list_any}
use Rattle.system_model.specs.declared.bound.Bound.{Bound}
use Rattle.system_model.specs.declared.plan.Plan.{Plan}
use Rattle.system_model.specs.declared.system.System.{System}
use Rattle.system_model.specs.Text.{Instant}
use Rattle.system_model.specs.Ports.{port_numbers}
use Rattle.run_model.specs.Equations.{is_bad}
use Rattle.run_model.specs.Initial.{is_bad_initially}
use Rattle.run_model.specs.Run.{Timer}
use Rattle.event_iteration.specs.Clocks.{AreTicks, no_events}
use Rattle.event_iteration.specs.Initialization.{initially, no_values}
use Rattle.event_iteration.specs.Instants.{in_instant}
use Rattle.event_iteration.specs.Intervals.{Rearms, first_told, intervals, is_some_armed, timing_calls}
use Rattle.event_iteration.specs.Settings.{before_step, port_order}
use Rattle.event_iteration.specs.Updates.{events_told, updated_by, updating}
use Rattle.slot_calls.specs.Log.{Sent}
use Rattle.slot_calls.specs.Stage.{shapes_of}
use Rattle.step_agreement.specs.Agreement.{Meets, Unfit}
use Rattle.rollback.specs.StepsBy.{some_ask_from}
use Rattle.calling_sequence.specs.Calls.{IsStep, binding, entering, entering_event, entering_step, freeing, leaving, saving}
use Rattle.calling_sequence.specs.Parts.{Agreement, AllAgree, Calls, Does, Part, Round, Walk}

-- ---- places

-- a point, the number of an instant there, the values that are known, in the stored order, the timers of the Clocks, and the event times of the components
pub record Spot : Type 0 where
  pub t : ℕ
  pub n : ℕ
  pub values : List (Option ℤ)
  pub timers : List Timer
  pub events : List (Option ℕ)

-- a step from there, with its bound
pub record Way : Type 0 where
  pub s : Spot
  pub to : ℕ

-- where a run stands between two parts
pub data Place : Type 0 where
  -- each instance was made; the bound parameters were set
  Made : Place
  Configured : Place
  -- each is in Initialization Mode; its values were found; the fixed and changing Clocks were asked, which tells these timers
  Entered : Place
  Found : (values : List (Option ℤ)) → Place
  Timed : (timers : List Timer) → Place
  -- before an instant with these ticks, with the values of the instant before it
  Before : (s : Spot) (ticks : ℕ → Bool) → Place
  -- its values were found; the countdown Clocks and the changing ones that ticked were asked, which tells the timers
  Read : (s : Spot) → Place
  Rearmed : (s : Spot) → Place
  -- after an instant, whose Updates tell the event times: whether another is asked for at the point, and whether the end is
  InstantDone : (s : Spot) (again asked : Bool) → Place
  -- on the way to a step: the point is done; those with event mode are in Step Mode; the inputs of the others were set; the states were saved
  Leaving : (w : Way) → Place
  Left : (w : Way) → Place
  Departing : (w : Way) → Place
  Saved : (w : Way) → Place
  -- the agreement stops before a step to this end, whose size the component doesn't take, the least of those
  Short : (w : Way) (component end : ℕ) → Place
  -- all stand at this point: whether the answer to a last step asks for the end
  Agreed : (w : Way) (point : ℕ) (asked : Bool) → Place
  -- after a step, at the point that all reached, where the states were freed
  Stepped : (s : Spot) (asked : Bool) → Place
  -- where a run is resumed: each was led back to its state, and is in Step Mode at a point that is done
  Restored : (s : Spot) → Place

-- what is sent from there
abbrev pub part_at : System → Bound → Plan → Place → Part
part_at system bound plan Made = Calls (binding bound)
part_at system bound plan Configured = Calls (entering system plan)
part_at system bound plan Entered =
    Walk (initially system) (no_values system) (port_numbers system.initial_order)
part_at system bound plan (Found values) = Calls (timing_calls system)
part_at system bound plan (Timed timers) = Calls (leaving system)
part_at system bound plan (Before s ticks) =
    Walk (in_instant ticks (s.n == 0)) s.values (port_numbers system.instant_order)
part_at system bound plan (Read s) = Walk (intervals s.values) s.values (port_order system)
part_at system bound plan (Rearmed s) = Calls (updating (shapes_of system))
part_at system bound plan (InstantDone s again asked) = Calls []
part_at system bound plan (Leaving w) = Calls (entering_step system)
part_at system bound plan (Left w) = Walk (before_step w.s.values) w.s.values (port_order system)
part_at system bound plan (Departing w) = Round (saving system)
part_at system bound plan (Saved w) = Agreement w.s.t plan.step w.to
part_at system bound plan (Short w component end) = Calls []
part_at system bound plan (Agreed w point asked) = Round (freeing system)
part_at system bound plan (Stepped s true) = Calls []
part_at system bound plan (Stepped s false) = Calls (entering_event system)
part_at system bound plan (Restored s) = Calls []

-- ---- from place to place

-- an instant may begin there: each port has a place for its value, and the Clocks tick by their timers
pub record Begins (system : System) (plan : Plan) (s : Spot) (ticks : ℕ → Bool) : Type 0 where
  pub known : length s.values ≡ length system.ports
  pub are_ticks : AreTicks system plan.start s.timers s.t s.n ticks

-- where a part's good answers lead: the values are those that a walk found, and the log is the part's
pub data LeadsTo (system : System) (plan : Plan) : Place → List (Option ℤ) → List Sent → Place →
    Type 0 where
  Binds : (values : List (Option ℤ)) (log : List Sent) →
      LeadsTo system plan Made values log Configured
  Enters : (values : List (Option ℤ)) (log : List Sent) →
      LeadsTo system plan Configured values log Entered
  Finds : (values : List (Option ℤ)) (log : List Sent) →
      LeadsTo system plan Entered values log (Found values)
  -- where no value is lost on its way: the timers of the Clocks before the first instant, by what the fixed and changing ones answered
  Times : (found values : List (Option ℤ)) (log : List Sent) (timers : List Timer) →
      list_any (is_bad_initially system found) system.ports ≡ false →
      timers ≡ first_told plan.resolution plan.start system log →
      LeadsTo system plan (Found found) values log (Timed timers)
  -- the first instant, at the start, before which no port has a value and no component an event time
  Exits : (timers : List Timer) (values : List (Option ℤ)) (log : List Sent) (s : Spot)
      (ticks : ℕ → Bool) →
      s ≡ record {
        t = plan.start;
        n = 0;
        values = no_values system;
        timers = timers;
        events = no_events system;
      } →
      Begins system plan s ticks → LeadsTo system plan (Timed timers) values log (Before s ticks)
  Reads : (s : Spot) (ticks : ℕ → Bool) (values : List (Option ℤ)) (log : List Sent) →
      length values ≡ length system.ports →
      LeadsTo system plan (Before s ticks) values log (Read (record s { values = values }))
  -- where no value is lost on its way
  Rearming : (s : Spot) (values : List (Option ℤ)) (next : List Timer) (log : List Sent) →
      list_any (is_bad s.values) system.ports ≡ false →
      Rearms system plan.resolution s.t s.values s.timers next log →
      LeadsTo system plan (Read s) values log (Rearmed (record s { timers = next }))
  -- the event times are those that the Updates ask for; another instant is asked for by an Update, or by a Clock that is armed for the point
  Updates : (s : Spot) (values : List (Option ℤ)) (log : List Sent) (events : List (Option ℕ))
      (again asked : Bool) → events ≡ events_told s.t (shapes_of system) log →
      again ≡ ((updated_by log).again || is_some_armed s.t s.timers) →
      asked ≡ (updated_by log).asked →
      LeadsTo system plan (Rearmed s) values log
      (InstantDone (record s { events = events }) again asked)
  -- another instant at the point, of which there may be one more
  Again : (s : Spot) (values : List (Option ℤ)) (log : List Sent) (ticks : ℕ → Bool) →
      (suc s.n == plan.limit) ≡ false → Begins system plan (record s { n = suc s.n }) ticks →
      LeadsTo system plan (InstantDone s true false) values log
      (Before (record s { n = suc s.n }) ticks)
  -- the point is done, from which a step is to be made
  GoesOn : (w : Way) (values : List (Option ℤ)) (log : List Sent) →
      IsStep system plan w.s.timers w.s.events w.s.t w.to →
      LeadsTo system plan (InstantDone w.s false false) values log (Leaving w)
  Leaves : (w : Way) (values : List (Option ℤ)) (log : List Sent) →
      LeadsTo system plan (Leaving w) values log (Left w)
  Sets : (w : Way) (values : List (Option ℤ)) (log : List Sent) →
      LeadsTo system plan (Left w) values log (Departing w)
  Saves : (w : Way) (values : List (Option ℤ)) (log : List Sent) →
      LeadsTo system plan (Departing w) values log (Saved w)
  -- all come to one point, which isn't computed anew
  Agreeing : (w : Way) (values : List (Option ℤ)) (log : List Sent) (point : ℕ) (asked : Bool) →
      AllAgree system w.s.t plan.step w.to log (Meets point) →
      asked ≡ some_ask_from 0 (shapes_of system) log →
      LeadsTo system plan (Saved w) values log (Agreed w point asked)
  Stopping : (w : Way) (values : List (Option ℤ)) (log : List Sent) (component end : ℕ) →
      AllAgree system w.s.t plan.step w.to log (Unfit component end) →
      LeadsTo system plan (Saved w) values log (Short w component end)
  Frees : (w : Way) (point : ℕ) (asked : Bool) (values : List (Option ℤ)) (log : List Sent) →
      LeadsTo system plan (Agreed w point asked) values log
      (Stepped (record w.s { t = point; n = 0 }) asked)
  Arrives : (s : Spot) (values : List (Option ℤ)) (log : List Sent) (ticks : ℕ → Bool) →
      Begins system plan (record s { n = 0 }) ticks →
      LeadsTo system plan (Stepped s false) values log (Before (record s { n = 0 }) ticks)
  -- the first step of a run that is resumed begins in Step Mode
  Resumes : (w : Way) (values : List (Option ℤ)) (log : List Sent) →
      IsStep system plan w.s.timers w.s.events w.s.t w.to →
      LeadsTo system plan (Restored w.s) values log (Left w)

-- the instant that follows the part which leads there
abbrev pub shown : Place → List Instant
shown (InstantDone s again asked) = record { t = s.t; n = s.n; values = s.values } ∷ []
shown p = []

-- ---- how much of a run is gone through

-- all of it; up to the first point from this one on that is done and before the stop, where it is held; or from there on, where it is resumed
pub data Extent : Type 0 where
  Whole : Extent
  UpToHeld : (at : ℕ) → Extent
  FromHeld : (s : Spot) → Extent

-- from instances that were made, or from those that were led back to their states
abbrev pub first_of : Extent → Place
first_of Whole = Made
first_of (UpToHeld at) = Made
first_of (FromHeld s) = Restored s

-- a step may begin at the point: a run that is held makes none from where it is
abbrev pub MayLeave : Extent → ℕ → Type 0
MayLeave Whole t = Unit {0}
MayLeave (UpToHeld at) t = t < at
MayLeave (FromHeld s) t = Unit {0}

abbrev pub IsWithin : Extent → Place → Type 0
IsWithin extent (Leaving w) = MayLeave extent w.s.t
IsWithin extent p = Unit {0}

-- by this log a run came to a place, after these instants
pub data CourseIn (system : System) (bound : Bound) (plan : Plan) (extent : Extent) : Place →
    List Sent → List Instant → Type 0 where
  AtFirst : CourseIn system bound plan extent (first_of extent) [] []
  On : (p q : Place) (values : List (Option ℤ)) (prefix more : List Sent) (is : List Instant) →
      CourseIn system bound plan extent p prefix is →
      Does system (part_at system bound plan p) values more →
      LeadsTo system plan p values more q → IsWithin extent q →
      CourseIn system bound plan extent q (prefix ++ more) (is ++ shown q)

-- of a whole run
abbrev pub Course : System → Bound → Plan → Place → List Sent → List Instant → Type 0
Course system bound plan p log is = CourseIn system bound plan Whole p log is
