-- FMUs that answer each call of a run well, in whatever state they are (FMI 3.0, 4.2.1: Co-Simulation), but perhaps those for the intervals and shifts of Clocks (2.2.9).
use Rattle.std.specs.Prelude.{◌≡◌, ◌⊎◌, ℕ, ◌<◌, ℤ, Bool, true, false, List, length, Option, Some, IsSomeAnd}
use Rattle.std.specs.List.{slice_get}
use Rattle.value_types.specs.Shape.{IsOutput, is_clock, timing_at, variable_at}
use Rattle.value_types.specs.Values.{Fits}
use Rattle.value_types.specs.declared.shape.Causality.TheVariants as V
use Rattle.value_types.specs.declared.shape.IntervalVariability.TheVariants as T
use Rattle.value_types.specs.declared.shape.ClockTiming.{ClockTiming}
use Rattle.value_types.specs.declared.shape.Variable.{Variable}
use Rattle.value_types.specs.declared.shape.Shape.{Shape}
use Rattle.fmi_calls.specs.declared.call.Call.{Call}
use Rattle.fmi_calls.specs.declared.call.Call.TheVariants as C
use Rattle.fmi_calls.specs.Permission.{is_value_type}
use Rattle.fmu_peer.specs.Machine.{MachineState, Machine, IsMachineOf}
use Rattle.system_model.specs.declared.system.Component.{Component}
use Rattle.system_model.specs.declared.system.Role.TheVariants.{TimeClock}
use Rattle.system_model.specs.declared.system.Timing.{Timing}
use Rattle.system_model.specs.declared.system.Port.{Port}
use Rattle.system_model.specs.Sound.{IsSound}
use Rattle.run_model.specs.Run.{Run, Situation}
use Rattle.run_model.specs.Equations.{Solves}
use Rattle.run_model.specs.Initial.{SolvesInitially, initialized}
use Rattle.run_model.specs.Behaved.{AnswersAt, AnswersInitially, BehavesWell, IsAnsweredWell, Reached}

-- a fixed Clock whose FMU is asked for its interval and shift
abbrev pub IsAskedFixed : ClockTiming → Type 0
IsAskedFixed timing = (timing.variability ≡ T.Fixed) × (timing.supports_fraction ≡ true)

-- a Clock whose FMU is asked for its shift: such a one, and a changing one
abbrev pub IsAskedForShift : ClockTiming → Type 0
IsAskedForShift timing = (timing.variability ≡ T.Changing) ⊎ IsAskedFixed timing

-- a Clock of the shape
abbrev pub IsClockOf : Shape → ℕ → (Variable → Type 0) → Type 0
IsClockOf shape reference Is =
    IsSomeAnd (variable_at shape.variables reference) (λ (v : Variable). (is_clock v ≡ true) × Is v)

-- a run sends the call to an FMU of the shape, in some state, before the closing
abbrev pub RunSends : Shape → Call → Type 0
RunSends shape (C.Instantiate event_mode early_return batches) =
    (event_mode ≡ shape.has_event_mode) × (early_return ≡ shape.might_return_early)
RunSends shape (C.EnterInitialization start stop) = Unit {0}
RunSends shape C.ExitInitialization = Unit {0}
RunSends shape C.EnterEvent = shape.has_event_mode ≡ true
RunSends shape C.EnterStep = shape.has_event_mode ≡ true
RunSends shape (C.DoStep at size) = 0 < size
RunSends shape C.Update = shape.has_event_mode ≡ true
RunSends shape (C.Get kind reference) = (is_value_type kind ≡ true) × IsOutput shape kind reference
RunSends shape (C.Set kind reference value) =
    (is_value_type kind ≡ true) × Fits kind value
    × IsSomeAnd (variable_at shape.variables reference) (λ (v : Variable). (v.kind ≡ Some kind) ×
    ((v.causality ≡ V.Parameter) ⊎ (v.causality ≡ V.Input)))
RunSends shape (C.GetClock reference) =
    IsClockOf shape reference (λ (v : Variable). v.causality ≡ V.Output)
RunSends shape (C.SetClock reference) =
    IsClockOf shape reference (λ (v : Variable). v.causality ≡ V.Input)
RunSends shape (C.GetInterval reference) =
    IsSomeAnd (timing_at shape.clocks reference) (λ (t : ClockTiming).
    (t.variability ≡ T.Countdown) ⊎ IsAskedForShift t)
RunSends shape (C.GetShift reference) =
    IsSomeAnd (timing_at shape.clocks reference) IsAskedForShift
RunSends shape C.Save = shape.can_save_state ≡ true
RunSends shape C.Restore = shape.can_save_state ≡ true
RunSends shape C.Free = shape.can_save_state ≡ true
RunSends shape C.Terminate = ⊥
RunSends shape C.FreeInstance = ⊥
RunSends shape C.Serialize = ⊥
RunSends shape (C.Deserialize length point stop) = ⊥

-- the machine answers each such call well in each state that has a value for each variable
abbrev pub AlwaysWell : Shape → Machine → Type 0
AlwaysWell shape m =
    (s : MachineState) (call : Call) → length s.values ≡ length shape.variables →
    RunSends shape call → IsAnsweredWell shape m s call

-- such a machine behaves well as the i-th FMU of any run, whatever the others do
abbrev pub AlwaysBehaves : Type 0
AlwaysBehaves = (r : Run) → IsSound r.system → (i : ℕ) →
    ((c : Component) (m : Machine) → slice_get r.system.components i ≡ Some c →
    slice_get r.machines i ≡ Some m → IsMachineOf c.shape m × AlwaysWell c.shape m) →
    BehavesWell r i

-- ---- but for the intervals and shifts of Clocks

-- the call asks for the interval or the shift of a Clock
abbrev pub asks_timing : Call → Bool
asks_timing (C.GetInterval reference) = true
asks_timing (C.GetShift reference) = true
asks_timing _ = false

-- the machine answers each call of a run but these well in each state that has a value for each variable
abbrev pub WellButTimings : Shape → Machine → Type 0
WellButTimings shape m =
    (s : MachineState) (call : Call) → length s.values ≡ length shape.variables →
    RunSends shape call → asks_timing call ≡ false → IsAnsweredWell shape m s call

-- these the i-th FMU answers well where the run sends them: of its fixed and changing Clocks with the values of Initialization Mode, and of its countdown and changing Clocks with the values of an instant
pub record TimesWell (r : Run) (i : ℕ) : Type 0 where
  pub initially : (values : List (Option ℤ)) → SolvesInitially r values → (p : ℕ) (port : Port) →
      slice_get r.system.ports p ≡ Some port → port.component.0 ≡ i →
      AnswersInitially port.role r (initialized r values) port
  pub in_instants : (s : Situation) (values : List (Option ℤ)) → Reached r s → Solves r s values →
      (p : ℕ) (port : Port) → slice_get r.system.ports p ≡ Some port → port.component.0 ≡ i →
      (timing : Timing) → port.role ≡ TimeClock timing →
      AnswersAt (TimeClock timing) r s values p port

-- such a machine that does so behaves well
abbrev pub TimedBehaves : Type 0
TimedBehaves = (r : Run) → IsSound r.system → (i : ℕ) →
    ((c : Component) (m : Machine) → slice_get r.system.components i ≡ Some c →
    slice_get r.machines i ≡ Some m → IsMachineOf c.shape m × WellButTimings c.shape m) →
    TimesWell r i → BehavesWell r i
