-- A run that is held and one that is resumed, for any replies (FMI 3.0, 2.2.6: FMU state): which calls are sent, what a checkpoint keeps, and what is put.
use Rattle.std.specs.Prelude.{◌≡◌, ◌⊎◌, ℕ, ◌<◌, ◌≤◌, ◌^◌, ℤ, false, List, [], ◌∷◌, ◌++◌, All, map, Option, Some, None, IfSome, Result, Ok, Err, length, slice_index_or, if◌then◌else◌, nat_le}
use Rattle.std.specs.List.{flat_map, slice_get}
use Rattle.std.specs.Option.{option_map}
use Rattle.sim_base.specs.Sink.{SinkView, with_piece}
use Rattle.value_types.specs.Values.{Fits, word_of, word_value}
use Rattle.fmu_peer.specs.CloseAll.{Instance}
use Rattle.system_model.specs.declared.plan.Plan.{Plan}
use Rattle.system_model.specs.declared.plan.EndKind.TheVariants as K
use Rattle.system_model.specs.declared.system.Port.{Port}
use Rattle.system_model.specs.declared.system.Role.{Role}
use Rattle.system_model.specs.declared.system.Role.TheVariants.{TimeClock}
use Rattle.system_model.specs.declared.system.System.{System}
use Rattle.system_model.specs.declared.system.Timing.TheVariants.{Periodic, Answered, Countdown, Changing}
use Rattle.system_model.specs.Text.{Instant, end_text}
use Rattle.run_model.specs.Run.{Timer, Never, Every, Once}
use Rattle.run_rest.specs.Snapshot.{time_up_to}
use Rattle.system_checkpoint.specs.declared.snapshot.Arming.{Arming}
use Rattle.system_checkpoint.specs.declared.snapshot.Arming.TheVariants.{NoClock, Unarmed, At}
use Rattle.system_checkpoint.specs.declared.snapshot.ClockTimes.{ClockTimes}
use Rattle.system_checkpoint.specs.declared.snapshot.Snapshot.{Snapshot}
use Rattle.system_checkpoint.specs.Spelling.{CanBeHeld, arming_bytes, option_bytes, sized, spelling, times_bytes}
use Rattle.exact_parts.specs.Field.{AreBytes}
use Rattle.tick_schedule.specs.declared.clock.ClockState.{ClockState}
use Rattle.tick_schedule.specs.declared.clock.ClockState.TheVariants as S
use Rattle.tick_schedule.specs.declared.clock.TimeClock.{TimeClock as TimedClock}
use Rattle.tick_schedule.specs.Timetable.{Timetable, resumed_state}
use Rattle.value_types.specs.declared.shape.IntervalVariability.TheVariants.{Fixed}
use Rattle.value_types.specs.declared.values.PortType.{PortType}
use Rattle.event_iteration.specs.Clocks.{IsPlaceOf, first_clock}
use Rattle.system_model.specs.Values.{value}
use Rattle.slot_calls.specs.declared.bad_answer.BadAnswer.{BadAnswer}
use Rattle.slot_calls.specs.Keeping.{AreRestored, AreRestoredUntil, IsPackedOf, without_machines}
use Rattle.slot_calls.specs.Log.{ComponentCall, Sent, Told}
use Rattle.slot_calls.specs.Stage.{IsAnswered, StopsAt, shapes_of}
use Rattle.calling_sequence.specs.declared.experiment.Experiment.{Experiment}
use Rattle.calling_sequence.specs.declared.run_end.RunEnd.{RunEnd}
use Rattle.calling_sequence.specs.declared.run_end.RunEnd.TheVariants as E
use Rattle.calling_sequence.specs.Calls.{entering_step, keeping, restoring}
use Rattle.calling_sequence.specs.Course.{CourseIn, FromHeld, InstantDone, Spot, UpToHeld}
use Rattle.calling_sequence.specs.Ends.{FinishesIn, RunsIn, header_of, kind_of_end}
use Rattle.calling_sequence.specs.Puts.{PutsPrefixOf}

-- ---- what a checkpoint keeps

-- the interval and the shift of a Clock that its FMU was asked for
abbrev pub times_of : Role → Timer → Option ClockTimes
times_of (TimeClock Answered) (Every interval shift) =
    Some (record { interval = interval; shift = shift })
times_of role timer = None

-- a point past the stop counts as none
abbrev pub armed_up_to : ℕ → Timer → Arming
armed_up_to stop (Once point) = if nat_le point stop then At point else Unarmed
armed_up_to stop timer = Unarmed

-- what a countdown or changing Clock is armed for
abbrev pub arming_of : ℕ → Role → Timer → Arming
arming_of stop (TimeClock Countdown) timer = armed_up_to stop timer
arming_of stop (TimeClock Changing) timer = armed_up_to stop timer
arming_of stop role timer = NoClock

-- for each port, by what is given of it
abbrev pub each_by : {V A : Type 0} → (Port → V → A) → List Port → List V → List A
each_by of [] given = []
each_by of (port ∷ ports) [] = []
each_by of (port ∷ ports) (x ∷ given) = of port x ∷ each_by of ports given

-- by its role and its timer
abbrev pub by_port : {A : Type 0} → (Role → Timer → A) → List Port → List Timer → List A
by_port of ports timers = each_by (λ (port : Port). of port.role) ports timers

-- the bytes after the states
abbrev pub rest_bytes : System → ℕ → List (Option ℤ) → List Timer → List (Option ℕ) → List ℕ
rest_bytes system stop values timers events =
    flat_map option_bytes (map (option_map word_of) values) ++
    (flat_map times_bytes (by_port times_of system.ports timers) ++
    (flat_map arming_bytes (by_port (arming_of stop) system.ports timers) ++
    flat_map option_bytes (map (time_up_to stop) events)))

-- where a run stands, with these states; the plan with one worker and the first version of the link
abbrev pub kept_at : Experiment → Spot → List (List ℕ) → Snapshot
kept_at e s states = record {
  plan = record e.plan { workers = 1; link = 1 };
  point = s.t;
  states = states;
  words = map (option_map word_of) s.values;
  times = by_port times_of e.system.ports s.timers;
  armings = by_port (arming_of e.plan.stop) e.system.ports s.timers;
  events = map (time_up_to e.plan.stop) s.events;
}

-- each port stands in the schedule as its role has it
abbrev pub AreOfRoles : List Port → List ClockState → Type 0
AreOfRoles ports clocks =
    (p : ℕ) (port : Port) (state : ClockState) → slice_get ports p ≡ Some port →
    slice_get clocks p ≡ Some state → IsPlaceOf port.role state

-- each value is one of its port's type
abbrev pub FitPorts : List Port → List (Option ℤ) → Type 0
FitPorts ports values =
    (p : ℕ) (port : Port) → slice_get ports p ≡ Some port → IfSome (value values p) (Fits port.kind)

-- ---- where a run stands that is resumed

abbrev pub timer_by : Role → Option ClockTimes → Arming → Timer
timer_by (TimeClock (Periodic interval shift)) times arming = Every interval shift
timer_by (TimeClock Answered) (Some times) arming = Every times.interval times.shift
timer_by (TimeClock Countdown) times (At point) = Once point
timer_by (TimeClock Changing) times (At point) = Once point
timer_by role times arming = Never

abbrev pub timers_by : List Port → List (Option ClockTimes) → List Arming → List Timer
timers_by (port ∷ ports) (times ∷ all) (arming ∷ armings) =
    timer_by port.role times arming ∷ timers_by ports all armings
timers_by ports all armings = []

-- the value of a word that is right for the type
abbrev pub value_by : PortType → Option ℕ → Option ℤ
value_by kind None = None
value_by kind (Some word) = word_value kind word

abbrev pub values_by : List Port → List (Option ℕ) → List (Option ℤ)
values_by ports words = each_by (λ (port : Port). value_by port.kind) ports words

abbrev pub spot_in : System → Snapshot → Spot
spot_in system held = record {
  t = held.point;
  n = 0;
  values = values_by system.ports held.words;
  timers = timers_by system.ports held.times held.armings;
  events = held.events;
}

-- the schedule there: what each port is to it, by the times that its Clock was asked for
abbrev pub clock_by : Role → Option ClockTimes → TimedClock
clock_by role None = first_clock role
clock_by role (Some times) = record {
  variability = Fixed;
  interval = Some times.interval;
  shift = Some times.shift;
}

abbrev pub clocks_by : List Port → List (Option ClockTimes) → List TimedClock
clocks_by ports times = each_by (λ (port : Port). clock_by port.role) ports times

-- each that was armed is armed
abbrev pub armed_as : Arming → ClockState → ClockState
armed_as (At point) state = S.Countdown (Some point)
armed_as arming state = state

abbrev pub armed_by : List Arming → List ClockState → List ClockState
armed_by [] states = states
armed_by (arming ∷ armings) [] = []
armed_by (arming ∷ armings) (state ∷ states) = armed_as arming state ∷ armed_by armings states

-- what was armed is a countdown or changing Clock
abbrev pub AreArmable : List Arming → List ClockState → Type 0
AreArmable armings states =
    (clock point : ℕ) → slice_get armings clock ≡ Some (At point) →
    slice_get states clock ≡ Some (S.Countdown None)

abbrev pub resumed_table : System → Plan → Snapshot → Timetable
resumed_table system plan held = record {
  start = plan.start;
  stop = plan.stop;
  clocks = armed_by held.armings (map (resumed_state plan.start held.point)
      (clocks_by system.ports held.times));
  events = held.events;
}

-- ---- a run that is held

-- the run came to the first point from this one on that is done and before the stop
pub record ComesToHold (e : Experiment) (at : ℕ) (s : Spot) (log : List Sent)
    (is : List Instant) : Type 0 where
  pub course : CourseIn e.system e.bound e.plan (UpToHeld at) (InstantDone s false false) log is
  pub reached : at ≤ s.t
  pub early : s.t < e.plan.stop

-- there each goes into Step Mode, and its state is kept
abbrev pub holding : System → List ComponentCall
holding system = entering_step system ++ keeping system

-- each component has its bytes, which are those of its state
pub record ArePacked (instances : List Instance) (states : List (List ℕ)) : Type 0 where
  pub len : length states ≡ length instances
  pub each : (i : ℕ) (d : Instance) → i < length instances →
      IsPackedOf (slice_index_or instances i d).view (slice_index_or states i [])

-- what was put of them after other bytes
pub record KeepsBytes (instances : List Instance) (old new : List ℕ) : Type 0 where
  pub states : List (List ℕ)
  pub packed : ArePacked instances states
  pub few : All (λ (state : List ℕ). length state ≤ 2 ^ 20) states
  pub are_bytes : All AreBytes states
  pub text : new ≡ old ++ flat_map sized states

-- all went into Step Mode and their states were kept, where the run stands so: the checkpoint
pub record KeepsWell (e : Experiment) (s : Spot) (olds news : List Instance)
    (bytes : List ℕ) : Type 0 where
  pub entered : List Sent
  pub kept : List Sent
  pub mids : List Instance
  pub states : List (List ℕ)
  pub into : Told entered olds mids
  pub entered_is : IsAnswered (shapes_of e.system) (entering_step e.system) entered
  pub packed : ArePacked mids states
  pub told : Told kept mids news
  pub kept_is : IsAnswered (shapes_of e.system) (keeping e.system) kept
  pub can : CanBeHeld e.system (kept_at e s states)
  pub bytes_are : bytes ≡ spelling (header_of e.system e.plan) (kept_at e s states)

-- or an answer isn't good
pub record KeepsBadly (e : Experiment) (bad : BadAnswer) (olds news : List Instance) : Type 0 where
  pub log : List Sent
  pub told : Told log olds news
  pub stops : StopsAt (shapes_of e.system) (holding e.system) bad log

abbrev pub KeepsAll : {T : Type 0} → Experiment → Spot → (olds news : List Instance) → List ℕ →
    Result T BadAnswer → Type 0
KeepsAll e s olds news bytes (Ok x) = KeepsWell e s olds news bytes
KeepsAll e s olds news bytes (Err bad) = KeepsBadly e bad olds news

-- a piece was put, and so the run ended; or its put failed
abbrev pub PutsPiece : RunEnd → List ℕ → SinkView → SinkView → RunEnd → Type 0
PutsPiece outcome piece before after end =
    ((end ≡ outcome) × (after ≡ with_piece before piece))
    ⊎ ((end ≡ E.WriteFault) × PutsPrefixOf before piece after)

-- so a run that is held ends with this log, and puts this piece alone
pub data HoldsWith (e : Experiment) (at : ℕ) (olds : List Instance) : RunEnd → List Sent →
    List ℕ → Type 0 where
  -- it ends before
  Early : (end : RunEnd) (point : ℕ) (log : List Sent) (is : List Instant) →
      FinishesIn e.system e.bound e.plan (UpToHeld at) end point log is →
      HoldsWith e at olds end log (end_text (kind_of_end end) point)
  -- an answer to the calls there isn't good
  BadlyHeld : (s : Spot) (bad : BadAnswer) (prefix more : List Sent) (is : List Instant) →
      ComesToHold e at s prefix is → StopsAt (shapes_of e.system) (holding e.system) bad more →
      HoldsWith e at olds (E.Bad bad) (prefix ++ more) (end_text K.Fault s.t)
  -- all are in Step Mode, and their states are kept: the checkpoint
  WellHeld : (s : Spot) (prefix entered kept : List Sent) (is : List Instant)
      (mids : List Instance) (states : List (List ℕ)) →
      ComesToHold e at s prefix is →
      IsAnswered (shapes_of e.system) (entering_step e.system) entered →
      Told (prefix ++ entered) olds mids → ArePacked mids states →
      IsAnswered (shapes_of e.system) (keeping e.system) kept →
      CanBeHeld e.system (kept_at e s states) →
      HoldsWith e at olds (E.Held s.t) ((prefix ++ entered) ++ kept)
      (spelling (header_of e.system e.plan) (kept_at e s states))

-- over slots: the piece was put, or its put failed
pub record HoldsSlots (e : Experiment) (at : ℕ) (olds news : List Instance)
    (before after : SinkView) (end : RunEnd) : Type 0 where
  pub log : List Sent
  pub told : Told log olds news
  pub outcome : RunEnd
  pub piece : List ℕ
  pub holds : HoldsWith e at olds outcome log piece
  pub puts : PutsPiece outcome piece before after end

-- ---- a run that is resumed

-- over slots, from instances that were made: each is led back to its state, and then the run goes on with the step from there; or an answer on the way back isn't good
pub data ResumesSlots (e : Experiment) (s : Spot) (states : List (List ℕ)) (olds news : List Instance)
    (before after : SinkView) (counted : ℕ) (end : RunEnd) : Type 0 where
  Back : (mids : List Instance) (log : List Sent) →
      Told log (without_machines olds) (without_machines mids) →
      IsAnswered (shapes_of e.system) (restoring s.t e.plan.stop (map length states)) log →
      AreRestored s.t e.plan.stop states olds mids →
      RunsIn e.system e.bound e.plan (FromHeld s) mids news before after counted end →
      ResumesSlots e s states olds news before after counted end
  NotBack : (bad : BadAnswer) (log : List Sent) →
      Told log (without_machines olds) (without_machines news) →
      StopsAt (shapes_of e.system) (restoring s.t e.plan.stop (map length states)) bad log →
      AreRestoredUntil s.t e.plan.stop states bad olds news → counted ≡ 0 →
      PutsPiece (E.Bad bad) (end_text K.Fault s.t) before after end → ResumesSlots e s states olds news before after counted end
