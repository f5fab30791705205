-- FMUs whose replies along a run are good: each reply that is looked at or goes with a change, kept or not, and each to a call that a driver may send there to set an input or to keep a state (FMI 3.0, 4.2.1: Co-Simulation; 2.2.6: FMU state).
use Rattle.std.specs.Prelude.{◌≡◌, ℕ, ◌<◌, ℤ, Bool, true, false, List, length, Option, Some, IsSomeAnd}
use Rattle.std.specs.List.{list_any, slice_get}
use Rattle.value_types.specs.Shape.{is_clock, variable_at}
use Rattle.value_types.specs.Values.{Fits}
use Rattle.value_types.specs.declared.shape.Causality.TheVariants as V
use Rattle.value_types.specs.declared.shape.Variable.{Variable}
use Rattle.value_types.specs.declared.shape.Shape.{Shape}
use Rattle.fmi_calls.specs.declared.call.Call.{Call}
use Rattle.fmi_calls.specs.declared.call.Call.TheVariants as C
use Rattle.fmi_calls.specs.declared.call.Grade.TheVariants as G
use Rattle.fmi_calls.specs.Permission.{is_value_type}
use Rattle.fmi_calls.specs.Worth.{grade_of}
use Rattle.fmu_peer.specs.Machine.{MachineState, Machine, after}
use Rattle.fmu_peer.specs.Mode.{instantiate_of}
use Rattle.system_model.specs.declared.system.Component.{Component}
use Rattle.system_model.specs.declared.system.Role.{Role}
use Rattle.system_model.specs.declared.system.Role.TheVariants.{Input, Output, ClockInput, ClockOutput, TimeClock}
use Rattle.system_model.specs.declared.system.Timing.TheVariants.{Periodic, Answered, Countdown, Changing}
use Rattle.system_model.specs.declared.system.Port.{Port}
use Rattle.run_model.specs.Run.{Run, Situation, IsFmu, each}
use Rattle.system_model.specs.Values.{is_active, is_present, value}
use Rattle.run_model.specs.Equations.{Solves}
use Rattle.run_model.specs.Initial.{first_states, instantiated, configured, initializing, initialized, enter_initialization, SolvesInitially, beginning, is_bad_initially, is_read}
use Rattle.run_model.specs.AfterInstant.{Done, following, written, updated}
use Rattle.run_model.specs.Steps.{IsBound, IsAsked}
use Rattle.run_model.specs.Stepping.{GoesOn, IsStep, departing, is_asked_first, steppers, asks_to_end, step_to, kept_at}
use Rattle.run_model.specs.Trace.{Leads}

-- ---- where a run comes to

-- the run comes to this situation
pub data Reached (r : Run) : Situation → Type 0 where
  AtFirst : (s : Situation) (initial : List (Option ℤ)) → SolvesInitially r initial →
      list_any (is_bad_initially r.system initial) r.system.ports ≡ false →
      s ≡ beginning r initial → Reached r s
  Onward : (s : Situation) (values : List (Option ℤ)) (next : Situation) → Reached r s →
      Solves r s values → Leads r s values (GoesOn next) → Reached r next

-- the run comes to this situation at a point before the stop that is done, where a step begins
pub record Departed (r : Run) (z : Situation) : Type 0 where
  pub s : Situation
  pub values : List (Option ℤ)
  pub reached : Reached r s
  pub solves : Solves r s values
  pub done : following r s values ≡ Done
  pub is : z ≡ updated r s values
  pub before_stop : z.t < r.plan.stop

-- ---- good replies

-- the machine's reply to the call in the state is good
abbrev pub IsAnsweredWell : Shape → Machine → MachineState → Call → Type 0
IsAnsweredWell shape m s call = grade_of shape call (m.look s call) ≡ G.Good

-- the i-th FMU answers well, in its state there, a call that its shape says
abbrev pub AnswersWell : Run → List MachineState → ℕ → (Shape → Call) → Type 0
AnswersWell r states i call =
    (c : Component) (m : Machine) (s : MachineState) → IsFmu r states i c m s →
    IsAnsweredWell c.shape m s (call c.shape)

-- likewise where it has event mode, or where it hasn't
abbrev pub AnswersWellIf : Bool → Run → List MachineState → ℕ → (Shape → Call) → Type 0
AnswersWellIf has_event_mode r states i call =
    (c : Component) (m : Machine) (s : MachineState) → IsFmu r states i c m s →
    c.shape.has_event_mode ≡ has_event_mode → IsAnsweredWell c.shape m s (call c.shape)

-- ---- calls that set an input or keep a state

-- before Initialization Mode, in it, in Event Mode, in Step Mode
pub data Mode : Type 0 where
  Configuring : Mode
  Initializing : Mode
  Eventing : Mode
  Stepping : Mode

-- a variable that may be set in the mode
abbrev pub IsSettable : Mode → Shape → Variable → Type 0
IsSettable Configuring shape v = v.causality ≡ V.Parameter
IsSettable Initializing shape v = (v.causality ≡ V.Input) × (length v.clocks ≡ 0)
IsSettable Eventing shape v = (v.causality ≡ V.Input) × (shape.has_event_mode ≡ true)
IsSettable Stepping shape v = (v.causality ≡ V.Input) × (shape.has_event_mode ≡ false)

-- the call sets a variable to a value of its type, makes an input Clock active, or keeps a state
abbrev pub IsSetting : Mode → Shape → Call → Type 0
IsSetting mode shape (C.Set kind reference value) =
    (is_value_type kind ≡ true) × Fits kind value ×
    IsSomeAnd (variable_at shape.variables reference) (λ (v : Variable). (v.kind ≡ Some kind) ×
    IsSettable mode shape v)
IsSetting Eventing shape (C.SetClock reference) =
    (shape.has_event_mode ≡ true) ×
    IsSomeAnd (variable_at shape.variables reference) (λ (v : Variable). (is_clock v ≡ true) ×
    (v.causality ≡ V.Input))
IsSetting Stepping shape C.Save = shape.can_save_state ≡ true
IsSetting Stepping shape C.Restore = shape.can_save_state ≡ true
IsSetting Stepping shape C.Free = shape.can_save_state ≡ true
IsSetting mode shape call = ⊥

-- whatever its variables and its slot hold, the i-th FMU answers each such call well in its state there
abbrev pub SetsWell : Mode → Run → List MachineState → ℕ → Type 0
SetsWell mode r states i =
    (c : Component) (m : Machine) (s z : MachineState) (call : Call) → IsFmu r states i c m s →
    z.numbers ≡ s.numbers → length z.values ≡ length s.values → IsSetting mode c.shape call →
    IsAnsweredWell c.shape m z call

-- ---- the parts of a run, for one FMU among any others

-- from the first call to Initialization Mode
pub record BehavesBefore (r : Run) (i : ℕ) : Type 0 where
  pub instantiate : AnswersWell r (first_states r) i (instantiate_of r.plan.link)
  pub parameters : SetsWell Configuring r (instantiated r) i
  pub enter : AnswersWell r (configured r) i (λ shape. enter_initialization r)

-- the timing of a fixed Clock is asked in Initialization Mode, and the shift of a changing one
abbrev pub AnswersInitially : Role → Run → List MachineState → Port → Type 0
AnswersInitially (TimeClock Answered) r states port =
    AnswersWell r states port.component.0 (λ shape. C.GetInterval port.reference) ×
    AnswersWell r states port.component.0 (λ shape. C.GetShift port.reference)
AnswersInitially (TimeClock Changing) r states port =
    AnswersWell r states port.component.0 (λ shape. C.GetShift port.reference)
AnswersInitially (TimeClock (Periodic interval shift)) r states port = Unit {0}
AnswersInitially (TimeClock Countdown) r states port = Unit {0}
AnswersInitially (Input feed) r states port = Unit {0}
AnswersInitially Output r states port = Unit {0}
AnswersInitially (ClockInput feed) r states port = Unit {0}
AnswersInitially ClockOutput r states port = Unit {0}

-- in Initialization Mode, with its values
pub record BehavesInitially (r : Run) (values : List (Option ℤ)) (i : ℕ) : Type 0 where
  pub sets : SetsWell Initializing r (initializing r) i
  pub gets : (p : ℕ) (port : Port) → slice_get r.system.ports p ≡ Some port → port.component.0 ≡ i →
      port.role ≡ Output → is_read r.system.ports p ≡ true →
      AnswersWell r (initialized r values) i (λ shape. C.Get port.kind port.reference)
  pub timings : (p : ℕ) (port : Port) → slice_get r.system.ports p ≡ Some port →
      port.component.0 ≡ i → AnswersInitially port.role r (initialized r values) port
  pub exit : AnswersWell r (initialized r values) i (λ shape. C.ExitInitialization)

-- a port in an instant: an output that is present is read with the values written, and without event mode in the first instant of a point; the interval of a countdown Clock is asked, and that of a changing one where it ticks
abbrev pub AnswersAt : Role → Run → Situation → List (Option ℤ) → ℕ → Port → Type 0
AnswersAt Output r s values p port =
    (is_present port values ≡ true →
    AnswersWellIf true r (written r s values) port.component.0 (λ shape.
    C.Get port.kind port.reference))
    × (s.n ≡ 0 → AnswersWellIf false r s.states port.component.0 (λ shape.
    C.Get port.kind port.reference))
AnswersAt ClockOutput r s values p port =
    AnswersWell r (written r s values) port.component.0 (λ shape. C.GetClock port.reference)
AnswersAt (TimeClock Countdown) r s values p port =
    AnswersWell r (written r s values) port.component.0 (λ shape. C.GetInterval port.reference)
AnswersAt (TimeClock Changing) r s values p port = is_active (value values p) ≡ true →
    AnswersWell r (written r s values) port.component.0 (λ shape. C.GetInterval port.reference)
AnswersAt (TimeClock (Periodic interval shift)) r s values p port = Unit {0}
AnswersAt (TimeClock Answered) r s values p port = Unit {0}
AnswersAt (Input feed) r s values p port = Unit {0}
AnswersAt (ClockInput feed) r s values p port = Unit {0}

-- in an instant, with its values
pub record BehavesInInstant (r : Run) (s : Situation) (values : List (Option ℤ))
    (i : ℕ) : Type 0 where
  pub sets : SetsWell Eventing r s.states i
  pub ports : (p : ℕ) (port : Port) → slice_get r.system.ports p ≡ Some port →
      port.component.0 ≡ i → AnswersAt port.role r s values p port
  pub update : AnswersWellIf true r (written r s values) i (λ shape. C.Update)

-- the states after each FMU was asked to step to its point
abbrev pub asked_states : Run → Situation → (ℕ → ℕ) → List MachineState
asked_states r z ask = each r (departing r z) (λ i c m state. after m state (step_to z.t (ask i)))

-- in a step: without event mode it is in Step Mode at once; whatever steps the others make on the way to an agreement, it answers each of its own well that is no empty one
pub record BehavesInStep (r : Run) (z : Situation) (i : ℕ) : Type 0 where
  pub enters_step : AnswersWellIf true r z.states i (λ shape. C.EnterStep)
  pub sets : (c : Component) → slice_get r.system.components i ≡ Some c →
      c.shape.has_event_mode ≡ false → SetsWell Stepping r z.states i
  pub saves : SetsWell Stepping r (departing r z) i
  pub asks : (bound e : ℕ) → IsBound r.plan z.timers z.events z.t bound →
      IsAsked (steppers r z) (is_asked_first r) z.t r.plan.step bound i e → z.t < e →
      AnswersWell r (departing r z) i (λ shape. step_to z.t e) ×
      SetsWell Stepping r (asked_states r z (λ k. e)) i
  pub enters_event : (kept : List ℕ) (point : ℕ) → IsStep r z kept point →
      asks_to_end r z kept ≡ false →
      AnswersWellIf true r (asked_states r z (kept_at kept)) i (λ shape. C.EnterEvent)

-- ---- the whole

-- the i-th FMU behaves well along the run
pub record BehavesWell (r : Run) (i : ℕ) : Type 0 where
  pub before : BehavesBefore r i
  pub initially : (values : List (Option ℤ)) → SolvesInitially r values →
      BehavesInitially r values i
  pub in_instants : (s : Situation) (values : List (Option ℤ)) → Reached r s → Solves r s values →
      BehavesInInstant r s values i
  pub in_steps : (z : Situation) → Departed r z → BehavesInStep r z i

-- each FMU does
abbrev pub WellBehaved : Run → Type 0
WellBehaved r = (i : ℕ) → BehavesWell r i
