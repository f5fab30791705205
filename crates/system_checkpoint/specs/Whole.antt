-- A checkpoint of a system: its bytes, and what they keep of a run (FMI 3.0, 2.2.6: FMU state; 2.2.8 and 2.2.9: Clocks).
use Rattle.std.specs.Prelude.{ℕ, ◌+◌, ◌<◌, ◌≤◌, ◌==◌, if◌then◌else◌, Bool, true, false, List, [], Option, Some, None, length, take, Result, Ok, Err}
use Rattle.system_model.specs.declared.system.System.{System}
use Rattle.system_model.specs.declared.system.Component.{Component}
use Rattle.system_model.specs.declared.system.Port.{Port}
use Rattle.system_model.specs.declared.system.Role.{Role}
use Rattle.system_model.specs.declared.system.Role.TheVariants.{TimeClock}
use Rattle.system_model.specs.declared.system.Timing.TheVariants.{Answered, Countdown, Changing}
use Rattle.exact_parts.specs.declared.taken.Taken.{Taken}
use Rattle.exact_parts.specs.declared.taken.Taken.TheVariants.{Got, NeedMore, Bad}
use Rattle.exact_parts.specs.Taking.{After, Begins}
use Rattle.exact_parts.specs.Each.{Each, Made}
use Rattle.system_checkpoint.specs.declared.first.First.{First}
use Rattle.system_checkpoint.specs.declared.snapshot.Arming.{Arming}
use Rattle.system_checkpoint.specs.declared.snapshot.Arming.TheVariants.{NoClock}
use Rattle.system_checkpoint.specs.declared.snapshot.ClockTimes.{ClockTimes}
use Rattle.system_checkpoint.specs.declared.snapshot.CheckpointFault.{CheckpointFault}
use Rattle.system_checkpoint.specs.declared.snapshot.CheckpointFault.TheVariants as F
use Rattle.system_checkpoint.specs.declared.snapshot.Snapshot.{Snapshot}
use Rattle.system_checkpoint.specs.Parts.{Known, Nothing, Optional, State, Times, arming_of, between, words}
use Rattle.system_checkpoint.specs.First.{IsFirst}

-- ---- the parts of components and ports

-- the state of a component
abbrev pub StateOf : Component → List ℕ → List ℕ → Type 0
StateOf component = State

-- the value of a port, if it has had one
abbrev pub WordOf : Port → Option ℕ → List ℕ → Type 0
WordOf port = Optional 1 (words port.kind)

-- the FMU of a fixed Clock is asked for its interval and its shift
abbrev pub is_asked : Role → Bool
is_asked (TimeClock Answered) = true
is_asked role = false

-- such a Clock has them, and each other port nothing
abbrev pub TimesIf : Bool → Option ClockTimes → List ℕ → Type 0
TimesIf true = Made Times Some
TimesIf false = Nothing None

abbrev pub TimesOf : Port → Option ClockTimes → List ℕ → Type 0
TimesOf port = TimesIf (is_asked port.role)

-- a countdown or changing Clock may be armed
abbrev pub may_be_armed : Role → Bool
may_be_armed (TimeClock Countdown) = true
may_be_armed (TimeClock Changing) = true
may_be_armed role = false

-- for a point from low to high; each other port has nothing
abbrev pub ArmingIf : (low high : ℕ) → Bool → Arming → List ℕ → Type 0
ArmingIf low high true = Made (Optional 1 (between low high)) arming_of
ArmingIf low high false = Nothing NoClock

-- that point is after the one where the run is held, and at most the stop
abbrev pub ArmingOf : Snapshot → Port → Arming → List ℕ → Type 0
ArmingOf held port = ArmingIf (held.point + 1) held.plan.stop (may_be_armed port.role)

-- so is the event time of a component, which may be there with event mode alone
abbrev pub EventOf : Snapshot → Component → Option ℕ → List ℕ → Type 0
EventOf held component =
    Optional (if component.shape.has_event_mode then 1 else 0)
    (between (held.point + 1) held.plan.stop)

-- ---- the whole, one part after another: each is after those that are held so far

abbrev pub with_events : Snapshot → List (Option ℕ) → Snapshot
with_events held events = record held { events = events }

abbrev pub EventsOf : System → Snapshot → Snapshot → List ℕ → Type 0
EventsOf system held = Made (Each (EventOf held) system.components) (with_events held)

abbrev pub ArmingsOf : System → Snapshot → Snapshot → List ℕ → Type 0
ArmingsOf system held =
    After (Each (ArmingOf held) system.ports)
    (λ (armings : List Arming). EventsOf system (record held { armings = armings }))

abbrev pub AllTimesOf : System → Snapshot → Snapshot → List ℕ → Type 0
AllTimesOf system held =
    After (Each TimesOf system.ports)
    (λ (times : List (Option ClockTimes)). ArmingsOf system (record held { times = times }))

abbrev pub WordsOf : System → Snapshot → Snapshot → List ℕ → Type 0
WordsOf system held =
    After (Each WordOf system.ports)
    (λ (words : List (Option ℕ)). AllTimesOf system (record held { words = words }))

abbrev pub StatesOf : System → Snapshot → Snapshot → List ℕ → Type 0
StatesOf system held =
    After (Each StateOf system.components)
    (λ (states : List (List ℕ)). WordsOf system (record held { states = states }))

abbrev pub HeaderOf : System → List ℕ → Snapshot → Snapshot → List ℕ → Type 0
HeaderOf system header held = After (Known header) (λ (nothing : Unit {0}). StatesOf system held)

-- what is held once the plan and the point are known
abbrev pub begun : First → Snapshot
begun first = record {
  plan = first.plan;
  point = first.point;
  states = [];
  words = [];
  times = [];
  armings = [];
  events = [];
}

-- the bytes are the checkpoint of a run of the system, where its trace begins with this header
abbrev pub Checkpoint : System → List ℕ → Snapshot → List ℕ → Type 0
Checkpoint system header =
    After IsFirst (λ (first : First). HeaderOf system header (begun first))

-- ---- an answer

-- no checkpoint is these bytes, and this is the first byte that continues none, or their length
pub record IsBad (system : System) (header bytes : List ℕ) (at : ℕ) : Type 0 where
  pub within : at ≤ length bytes
  pub prefix : Begins (Checkpoint system header) (take at bytes)
  pub next : at < length bytes → Begins (Checkpoint system header) (take (at + 1) bytes) → ⊥
  pub none : (held : Snapshot) → Checkpoint system header held bytes → ⊥

-- the answer is right for the bytes
abbrev pub Answers : System → List ℕ → List ℕ → Result Snapshot CheckpointFault → Type 0
Answers system header bytes (Ok held) = Checkpoint system header held bytes
Answers system header bytes (Err (F.Bad at)) = IsBad system header bytes at
Answers system header bytes (Err F.Memory) = Unit {0}

-- what is answered for so many bytes, by what stands at their beginning
abbrev pub told : Taken Snapshot → ℕ → Result Snapshot CheckpointFault
told (Got held size) all = if size == all then Ok held else Err (F.Bad size)
told NeedMore all = Err (F.Bad all)
told (Bad at) all = Err (F.Bad at)
