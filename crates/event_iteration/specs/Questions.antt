-- One port's part in the questions for the intervals of Clocks (FMI 3.0, 2.2.9): its calls with their answers, and where its Clock stands in the schedule then.
use Rattle.std.specs.Prelude.{◌≡◌, ℕ, ◌+◌, ◌<◌, ◌≤◌, ◌==◌, ℤ, Bool, true, false, if◌then◌else◌, List, [], ◌∷◌, length, map, Option, Some, None, Result, Ok, Err}
use Rattle.std.specs.List.{slice_get}
use Rattle.std.specs.Option.{option_map, option_map_or}
use Rattle.clock_fraction.specs.Counts.{counts_of}
use Rattle.value_types.specs.declared.shape.Shape.{Shape}
use Rattle.fmi_calls.specs.declared.call.Call.{Call}
use Rattle.fmi_calls.specs.declared.call.Call.TheVariants as C
use Rattle.fmi_calls.specs.declared.call.Interval.{Interval}
use Rattle.fmi_calls.specs.declared.call.Interval.TheVariants.{NotYetKnown, Unchanged, Changed}
use Rattle.fmi_calls.specs.declared.call.Reply.{Reply}
use Rattle.fmi_calls.specs.declared.phase.InstanceState.{InstanceState}
use Rattle.fmi_calls.specs.Next.{running_state}
use Rattle.fmi_calls.specs.Permission.{has_interval, has_shift, is_marked}
use Rattle.fmu_peer.specs.CloseAll.{Instance}
use Rattle.system_model.specs.declared.system.Role.{Role}
use Rattle.system_model.specs.declared.system.Role.TheVariants.{Input, Output, ClockInput, ClockOutput, TimeClock}
use Rattle.system_model.specs.declared.system.Timing.TheVariants.{Periodic, Answered, Countdown, Changing}
use Rattle.system_model.specs.declared.system.Component.{Component}
use Rattle.system_model.specs.declared.system.Port.{Port}
use Rattle.system_model.specs.declared.system.System.{System}
use Rattle.system_model.specs.Ports.{is_clock_role}
use Rattle.tick_schedule.specs.declared.clock.ClockState.{ClockState}
use Rattle.tick_schedule.specs.declared.clock.ClockState.TheVariants as S
use Rattle.tick_schedule.specs.Timetable.{Timetable, after_tick, with_clock}
use Rattle.run_model.specs.Run.{Timer, Every, Once}
use Rattle.system_model.specs.Values.{value, is_active}
use Rattle.run_model.specs.Timers.{is_armed_for}
use Rattle.slot_calls.specs.declared.bad_answer.BadAnswer.{BadAnswer}
use Rattle.slot_calls.specs.Carried.{reply_in}
use Rattle.slot_calls.specs.Log.{Sent, Told}
use Rattle.slot_calls.specs.Stage.{IsAnswered, StopsAt, shapes}
use Rattle.event_iteration.specs.Clocks.{IsNextFrom, IsPlaceOf, first_place, is_due_in, timer_in}
use Rattle.event_iteration.specs.Intervals.{first_told_by, interval_by, intervals, is_time_clock, timing_calls_of}
use Rattle.event_iteration.specs.Turns.{Stops, Turn}

-- ---- one question

-- the mode of an instance: its state, and which of its variables are active Clocks
pub record InstanceMode : Type 0 where
  pub state : InstanceState
  pub active : List Bool

abbrev pub mode_of : Instance → InstanceMode
mode_of x = record { state = x.view.phase.state; active = x.view.phase.active }

abbrev pub modes : List Instance → List InstanceMode
modes is = map mode_of is

-- an interval or a shift may be asked for there
abbrev pub may_tell : Call → InstanceMode → Shape → Bool
may_tell (C.GetInterval reference) mode shape =
    has_interval mode.state shape mode.active reference
may_tell (C.GetShift reference) mode shape = has_shift mode.state shape reference
may_tell _ mode shape = false

-- the i-th instance may be asked so
abbrev pub MayTell : Call → ℕ → List Instance → Type 0
MayTell call i is =
    (mode : InstanceMode) (shape : Shape) → slice_get (modes is) i ≡ Some mode →
    slice_get (shapes is) i ≡ Some shape → may_tell call mode shape ≡ true

-- a Clock whose value is active is so in its FMU
abbrev pub IsActive : System → ℕ → Option ℤ → List InstanceMode → Type 0
IsActive system p v modes =
    (port : Port) (c : Component) (mode : InstanceMode) → slice_get system.ports p ≡ Some port →
    slice_get system.components port.component.0 ≡ Some c →
    slice_get modes port.component.0 ≡ Some mode → is_clock_role port.role ≡ true →
    is_active v ≡ true → is_marked c.shape mode.active port.reference ≡ true

-- each Clock that is active in the values
abbrev pub AreActive : System → List (Option ℤ) → List InstanceMode → Type 0
AreActive system values modes = (p : ℕ) → IsActive system p (value values p) modes

-- the reply that stands first in a log
abbrev pub first_reply : List Sent → Option Reply
first_reply [] = None
first_reply (s ∷ log) = reply_in s.exchange

-- ---- fixed and changing Clocks

-- where the Clock of a port stands before the first instant, its FMU asked
pub record IsFirstPlace (start : ℕ) (role : Role) (place : ClockState) : Type 0 where
  pub of : IsPlaceOf role place
  pub next : IsNextFrom start start true place

-- a fixed Clock whose FMU is asked
abbrev pub is_asked : Role → Bool
is_asked (TimeClock Answered) = true
is_asked (TimeClock (Periodic interval shift)) = false
is_asked (TimeClock Countdown) = false
is_asked (TimeClock Changing) = false
is_asked (Input feed) = false
is_asked Output = false
is_asked (ClockInput feed) = false
is_asked ClockOutput = false

-- a changing Clock, whose FMU is asked for its shift
abbrev pub is_changing : Role → Bool
is_changing (TimeClock Changing) = true
is_changing (TimeClock Answered) = false
is_changing (TimeClock (Periodic interval shift)) = false
is_changing (TimeClock Countdown) = false
is_changing (Input feed) = false
is_changing Output = false
is_changing (ClockInput feed) = false
is_changing ClockOutput = false

-- the counts of an interval that is known
abbrev pub counts_told : ℕ → Interval → Option ℕ
counts_told per_second NotYetKnown = None
counts_told per_second (Unchanged f) = counts_of f per_second
counts_told per_second (Changed f) = counts_of f per_second

-- a Clock that is asked stands before its first tick, at a positive interval, and this is its timer
pub record IsEntered (p : ℕ) (timer : Timer) (before after : Timetable) : Type 0 where
  pub interval : ℕ
  pub shift : ℕ
  pub is : after ≡ with_clock before p (S.Periodic interval shift 0)
  pub above : 0 < interval
  pub timer_is : timer ≡ Every interval shift

-- a changing Clock is armed for the shift from the start, and this is its timer
pub record IsShifted (p : ℕ) (timer : Timer) (before after : Timetable) : Type 0 where
  pub shift : ℕ
  pub is : after ≡ with_clock before p (S.Countdown (Some (before.start + shift)))
  pub timer_is : timer ≡ Once (before.start + shift)

-- the Clock of a port stands where this log tells
pub record IsFixed (role : Role) (per_second p : ℕ) (log : List Sent)
    (before after : Timetable) : Type 0 where
  pub place : ClockState
  pub is : after ≡ with_clock before p place
  pub timer : timer_in place ≡ first_told_by role per_second before.start log
  pub first : IsFirstPlace before.start role place

abbrev pub FixSays : Role → Port → (per_second p : ℕ) → List Shape → List Sent → Timetable →
    Timetable → Result (Unit {0}) BadAnswer → Type 0
FixSays role port per_second p ss log before after (Ok x) =
    IsAnswered ss (timing_calls_of role port) log × IsFixed role per_second p log before after
FixSays role port per_second p ss log before after (Err bad) =
    StopsAt ss (timing_calls_of role port) bad log

-- a port's FMU was asked for interval and shift where it is a fixed Clock, and for the shift where it is a changing one, or a bad answer stopped it
pub record FixesPort (port : Port) (per_second p : ℕ) (before after : Timetable)
    (olds news : List Instance) (result : Result (Unit {0}) BadAnswer) : Type 0 where
  pub log : List Sent
  pub told : Told log olds news
  pub says : FixSays port.role port per_second p (shapes olds) log before after result

-- the Clocks of the first ports stand where their FMUs have answered, and the others as at first
pub record IsFixedUpTo (system : System) (k : ℕ) (table : Timetable) : Type 0 where
  pub len : length table.clocks ≡ length system.ports
  pub after : (q : ℕ) (port : Port) (place : ClockState) → q < k →
      slice_get system.ports q ≡ Some port → slice_get table.clocks q ≡ Some place →
      IsFirstPlace table.start port.role place
  pub ahead : (q : ℕ) (port : Port) → k ≤ q → slice_get system.ports q ≡ Some port →
      slice_get table.clocks q ≡ Some (first_place port.role)

-- ---- countdown and changing Clocks, after an instant

-- each component with event mode is in Event Mode
abbrev pub AreRunning : System → List InstanceMode → Type 0
AreRunning system modes =
    (i : ℕ) (c : Component) (mode : InstanceMode) → slice_get system.components i ≡ Some c →
    slice_get modes i ≡ Some mode → mode.state ≡ running_state c.shape

abbrev pub counts_down : Role → Bool
counts_down (TimeClock Countdown) = true
counts_down (TimeClock (Periodic interval shift)) = false
counts_down (TimeClock Answered) = false
counts_down (TimeClock Changing) = false
counts_down (Input feed) = false
counts_down Output = false
counts_down (ClockInput feed) = false
counts_down ClockOutput = false

-- a port whose FMU is asked for its interval where the port has this value
abbrev pub is_asked_after : Role → Option ℤ → Bool
is_asked_after (TimeClock Countdown) v = true
is_asked_after (TimeClock Changing) v = is_active v
is_asked_after (TimeClock (Periodic interval shift)) v = false
is_asked_after (TimeClock Answered) v = false
is_asked_after (Input feed) v = false
is_asked_after Output v = false
is_asked_after (ClockInput feed) v = false
is_asked_after ClockOutput v = false

-- a port was asked for its interval where it is a countdown Clock, or a changing one that ticks
abbrev pub AskSays : System → ℕ → Option ℤ → List Sent → Result (Option Reply) BadAnswer → Type 0
AskSays system p v log (Ok reply) =
    (values : List (Option ℤ)) → value values p ≡ v →
    Turn system (intervals values) p reply values values log
AskSays system p v log (Err bad) =
    (last : Sent) × (log ≡ last ∷ []) ×
    ((values : List (Option ℤ)) → value values p ≡ v → Stops system (intervals values) p bad values last)

pub record AsksPort (system : System) (p : ℕ) (v : Option ℤ) (olds news : List Instance)
    (result : Result (Option Reply) BadAnswer) : Type 0 where
  pub log : List Sent
  pub told : Told log olds news
  pub says : AskSays system p v log result

-- where a countdown Clock stands once its FMU has answered at the point
abbrev pub rearmed : (per_second t : ℕ) → Interval → ClockState → ClockState
rearmed per_second t NotYetKnown place = S.Countdown None
rearmed per_second t (Unchanged f) place = place
rearmed per_second t (Changed f) place =
    S.Countdown (option_map (λ counts. t + counts) (counts_of f per_second))

-- where a changing Clock stands that has ticked, once its FMU has answered at the point
abbrev pub armed_anew : (per_second t : ℕ) → Interval → ClockState
armed_anew per_second t told =
    S.Countdown (option_map (λ counts. t + counts) (counts_told per_second told))

-- where a Clock stands that ticked or not
abbrev pub ticked_if : Bool → ClockState → ClockState
ticked_if ticks place = if ticks then after_tick place else place

-- where a port stands after an instant at the point, in which it has this value
abbrev pub place_after : Role → (per_second t : ℕ) → Option ℤ → Interval → ClockState → ClockState
place_after (TimeClock Countdown) per_second t v told place =
    rearmed per_second t told (ticked_if (is_active v) place)
place_after (TimeClock Changing) per_second t v told place =
    if is_active v then armed_anew per_second t told else place
place_after (TimeClock (Periodic interval shift)) per_second t v told place =
    ticked_if (is_active v) place
place_after (TimeClock Answered) per_second t v told place = ticked_if (is_active v) place
place_after (Input feed) per_second t v told place = place
place_after Output per_second t v told place = place
place_after (ClockInput feed) per_second t v told place = place
place_after ClockOutput per_second t v told place = place

-- the port stands somewhere before it goes on, as its role says, and it has ticked exactly where it is due
pub record GoesFrom (table : Timetable) (role : Role) (t p : ℕ) (v : Option ℤ) : Type 0 where
  pub place : ClockState
  pub is : slice_get table.clocks p ≡ Some place
  pub of : IsPlaceOf role place
  pub ticks : is_time_clock role ≡ true → is_active v ≡ is_due_in table.start t place
  pub within : t ≤ table.stop

-- it has gone on
abbrev pub IsAfter : Role → (per_second t p : ℕ) → Option ℤ → Interval →
    Timetable → Timetable → Type 0
IsAfter role per_second t p v told before after =
    (place : ClockState) → slice_get before.clocks p ≡ Some place →
    after ≡ with_clock before p (place_after role per_second t v told place)

-- it is told whether the Clock at the place is armed for the point
abbrev pub IsArmed : (t p : ℕ) → Timetable → Bool → Type 0
IsArmed t p table armed =
    (place : ClockState) → slice_get table.clocks p ≡ Some place →
    armed ≡ is_armed_for t (timer_in place)

-- an interval of no count arms for the point itself: of a changing Clock
abbrev pub has_no_count : ℕ → Interval → Bool
has_no_count per_second told = option_map_or (λ counts. counts == 0) (counts_told per_second told) false

-- and of a countdown Clock a new one
abbrev pub arms_now : ℕ → Interval → Bool
arms_now per_second NotYetKnown = false
arms_now per_second (Unchanged f) = false
arms_now per_second (Changed f) =
    option_map_or (λ counts. counts == 0) (counts_of f per_second) false

-- the first ports stand as after the instant, and the others as before
pub record IsAfterUpTo (system : System) (per_second t : ℕ) (values : List (Option ℤ))
    (replies : ℕ → Option Reply) (k : ℕ) (before now : Timetable) : Type 0 where
  pub start : now.start ≡ before.start
  pub stop : now.stop ≡ before.stop
  pub events : now.events ≡ before.events
  pub len : length now.clocks ≡ length before.clocks
  pub after : (q : ℕ) (port : Port) (place : ClockState) → q < k →
      slice_get system.ports q ≡ Some port → slice_get before.clocks q ≡ Some place →
      slice_get now.clocks q ≡ Some
      (place_after port.role per_second t (value values q) (interval_by (replies q)) place)
  pub ahead : (q : ℕ) → k ≤ q → slice_get now.clocks q ≡ slice_get before.clocks q
