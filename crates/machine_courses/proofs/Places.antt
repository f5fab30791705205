-- Where a run of told machines stands at each place of its course: the situation that their run came to, and their states.
use Rattle.std.proofs.Common.{◌≡◌, ℕ, ◌<◌, ◌≤◌, ℤ, Bool, false, List, [], ◌∷◌, ◌++◌, Option}
use Rattle.fmu_peer.specs.Machine.{MachineState}
use Rattle.system_model.specs.declared.plan.Plan.{Plan}
use Rattle.system_model.specs.Text.{Instant}
use Rattle.run_model.specs.AfterInstant.{Done, any_update, asks_for_end, following, goes_again, next_events, next_timers, updated, written}
use Rattle.std.specs.List.{list_any}
use Rattle.system_model.specs.Values.{value}
use Rattle.run_model.specs.Equations.{Solves, is_bad}
use Rattle.run_model.specs.Initial.{SolvesInitially, configured, first_timers, initialized, initializing, instantiated, is_bad_initially}
use Rattle.run_model.specs.Run.{Run, Situation, Timer}
use Rattle.run_model.specs.Stepping as P
use Rattle.run_model.specs.Stepping.{asks_to_end, departing}
use Rattle.run_model.specs.Trace.{instant_of}
use Rattle.event_iteration.specs.Settings.{entered_step}
use Rattle.calling_sequence.specs.Calls.{IsStep}
use Rattle.calling_sequence.specs.Course.{Agreed, Before, Begins, Configured, Departing, Entered, Found, Left, Leaving, Made, Place, Read, Rearmed, Restored, Saved, InstantDone, Short, Spot, Stepped, Timed, Way}
use Rattle.run_rest.specs.Snapshot.{time_up_to, up_to}
use Rattle.run_rest.proofs.CallerLemmas.{Alike}
use Rattle.machine_courses.specs.Prefixes.{CameTo}
use Rattle.machine_courses.proofs.Steps.{after_step, agreed, saved}

-- a point between start and stop, and an instant below the limit of those there
pub record IsWithin (plan : Plan) (t n : ℕ) : Type 0 where
  pub begun : plan.start ≤ t
  pub ended : t ≤ plan.stop
  pub below : n < plan.limit

module _ (r : Run) where
  -- the spot is that of a situation to which the run came
  pub record IsSpotOf (s : Spot) (is : List Instant) (z : Situation) : Type 0 where
    pub came : CameTo r z is
    pub point : z.t ≡ s.t
    pub number : z.n ≡ s.n
    pub within : IsWithin r.plan s.t s.n

  -- timers and event times count as these: an arming past the stop counts as none, and so does an event time
  abbrev pub CountAs : List Timer → List Timer → Type 0
  CountAs xs ys = Alike (up_to r.plan.stop) xs ys

  abbrev pub CountAsTimes : List (Option ℕ) → List (Option ℕ) → Type 0
  CountAsTimes xs ys = Alike (time_up_to r.plan.stop) xs ys

  -- before an instant
  pub record Comes (s : Spot) (ticks : ℕ → Bool) (is : List Instant) (ss : List MachineState) : Type 0 where
    pub z : Situation
    pub at : IsSpotOf s is z
    pub values : z.before ≡ s.values
    pub timers : CountAs z.timers s.timers
    pub begins : Begins r.system r.plan s ticks
    pub states : ss ≡ z.states

  -- in an instant whose values are found
  pub record Finds (s : Spot) (is : List Instant) (ss : List MachineState) : Type 0 where
    pub z : Situation
    pub at : IsSpotOf s is z
    pub solves : Solves r z s.values
    pub states : ss ≡ written r z s.values

  -- after an instant, which is the last of these
  pub record Sees (s : Spot) (is : List Instant) : Type 0 where
    pub z : Situation
    pub earlier : List Instant
    pub at : IsSpotOf s earlier z
    pub solves : Solves r z s.values
    pub timers : CountAs (next_timers r z s.values) s.timers
    pub events : CountAsTimes (next_events r z s.values) s.events
    pub kept : list_any (is_bad s.values) r.system.ports ≡ false
    pub is_is : is ≡ earlier ++ instant_of z s.values ∷ []

  -- where it leads
  abbrev pub over : (s : Spot) (is : List Instant) → Sees s is → Situation
  over s is x = updated r x.z s.values

  -- with what its Updates say
  pub record Says (s : Spot) (again asked : Bool) (is : List Instant) (ss : List MachineState) : Type 0 where
    pub sees : Sees s is
    pub again_is : again ≡ goes_again r sees.z s.values
    pub asked_is : asked ≡ any_update asks_for_end r sees.z s.values
    pub states : ss ≡ (over s is sees).states

  -- the point is done with it, whatever its number is, and a step fits
  pub record Goes (w : Way) (is : List Instant) : Type 0 where
    pub n : ℕ
    pub sees : Sees (record w.s { n = n }) is
    pub done : following r sees.z w.s.values ≡ Done
    pub step : IsStep r.system r.plan (next_timers r sees.z w.s.values) (next_events r sees.z w.s.values) sees.z.t w.to

  -- where the step begins
  abbrev pub gone : (w : Way) (is : List Instant) → Goes w is → Situation
  gone w is g = updated r g.sees.z w.s.values

  -- all came to one point after it, and each keeps what it was asked last
  pub record Lands (w : Way) (point : ℕ) (asked : Bool) (is : List Instant) : Type 0 where
    pub goes : Goes w is
    pub asks : List ℕ
    pub made : P.IsStep r (gone w is goes) asks point
    pub later : (gone w is goes).t < point
    pub within : point ≤ w.to
    pub asked_is : asked ≡ asks_to_end r (gone w is goes) asks

  -- the step was made
  pub record Steps (s : Spot) (asked : Bool) (is : List Instant) (ss : List MachineState) : Type 0 where
    pub w : Way
    pub lands : Lands w s.t asked is
    pub values : w.s.values ≡ s.values
    pub timers : w.s.timers ≡ s.timers
    pub states : ss ≡ after_step r (gone w is lands.goes) lands.asks

  -- led back to where the point was done, whatever the number of its last instant is, and each is in Step Mode
  pub record Resumes (s : Spot) (is : List Instant) (ss : List MachineState) : Type 0 where
    pub n : ℕ
    pub sees : Sees (record s { n = n }) is
    pub done : following r sees.z s.values ≡ Done
    pub states : ss ≡ entered_step r (updated r sees.z s.values)

  -- in Initialization Mode, with its values written
  pub record Initializes (ss : List MachineState) : Type 0 where
    pub initial : List (Option ℤ)
    pub solves : SolvesInitially r initial
    pub states : ss ≡ initialized r initial

  -- where they are those that were found
  abbrev pub AreFound : List (Option ℤ) → List MachineState → Type 0
  AreFound values ss = (i : Initializes ss) × ((p : ℕ) → value values p ≡ value i.initial p)

  -- and none is lost on its way
  abbrev pub AreKept : List MachineState → Type 0
  AreKept ss = (i : Initializes ss) × (list_any (is_bad_initially r.system i.initial) r.system.ports ≡ false)

  -- at each place
  abbrev pub At : Place → List Instant → List MachineState → Type 0
  At Made is ss = (is ≡ []) × (ss ≡ instantiated r)
  At Configured is ss = (is ≡ []) × (ss ≡ configured r)
  At Entered is ss = (is ≡ []) × (ss ≡ initializing r)
  At (Found values) is ss = (is ≡ []) × AreFound values ss
  At (Timed timers) is ss = (is ≡ []) × (i : AreKept ss) × (timers ≡ first_timers r (initialized r i.0.initial))
  At (Before s ticks) is ss = Comes s ticks is ss
  At (Read s) is ss = (f : Finds s is ss) × CountAs f.z.timers s.timers
  At (Rearmed s) is ss = (f : Finds s is ss) × (list_any (is_bad s.values) r.system.ports ≡ false) × CountAs (next_timers r f.z s.values) s.timers
  At (InstantDone s again asked) is ss = Says s again asked is ss
  At (Leaving w) is ss = (g : Goes w is) × (ss ≡ (gone w is g).states)
  At (Left w) is ss = (g : Goes w is) × (ss ≡ entered_step r (gone w is g))
  At (Departing w) is ss = (g : Goes w is) × (ss ≡ departing r (gone w is g))
  At (Saved w) is ss = (g : Goes w is) × (ss ≡ saved r (gone w is g))
  At (Short w component end) is ss = (g : Goes w is) × P.LacksStep r (gone w is g) component end
  At (Agreed w point asked) is ss = (l : Lands w point asked is) × (ss ≡ agreed r (gone w is l.goes) l.asks)
  At (Stepped s asked) is ss = Steps s asked is ss
  At (Restored s) is ss = Resumes s is ss
