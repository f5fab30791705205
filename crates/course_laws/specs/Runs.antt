-- How far a run has come by its log, for any replies, from the first Instantiate on (FMI 3.0, 4.2.1).
use Rattle.std.specs.Prelude.{◌≡◌, ◌⊎◌, ℕ, false, List, ◌++◌, Option, Some, None, length}
use Rattle.std.specs.List.{slice_get}
use Rattle.sim_base.specs.Sink.{SinkView}
use Rattle.system_model.specs.declared.bound.Bound.{Bound}
use Rattle.system_model.specs.declared.plan.Plan.{Plan}
use Rattle.system_model.specs.declared.system.Port.{Port}
use Rattle.system_model.specs.declared.system.Role.{Role}
use Rattle.system_model.specs.declared.system.Role.TheVariants.{TimeClock}
use Rattle.system_model.specs.declared.system.Timing.TheVariants.{Changing, Countdown}
use Rattle.system_model.specs.declared.system.System.{System}
use Rattle.system_model.specs.Bounds.{BindsParameters}
use Rattle.system_model.specs.Text.{Instant}
use Rattle.run_model.specs.Run.{Once, Timer}
use Rattle.fmu_peer.specs.CloseAll.{Instance}
use Rattle.slot_calls.specs.declared.bad_answer.BadAnswer.{BadAnswer}
use Rattle.slot_calls.specs.Log.{Sent}
use Rattle.slot_calls.specs.Stage.{IsAnswered, StopsAt, shapes_of}
use Rattle.calling_sequence.specs.declared.run_end.RunEnd.{RunEnd}
use Rattle.calling_sequence.specs.declared.run_end.RunEnd.TheVariants as E
use Rattle.calling_sequence.specs.Plans.{CountsBy}
use Rattle.calling_sequence.specs.declared.experiment.Experiment.{Experiment}
use Rattle.calling_sequence.specs.Calls.{making, restoring}
use Rattle.calling_sequence.specs.Course.{Course, CourseIn, Found, FromHeld, InstantDone, Made, Place, Read, Restored, Short, Spot, Stepped, part_at}
use Rattle.calling_sequence.specs.Ends.{EndsBy, EndsIn}
use Rattle.calling_sequence.specs.Holding.{HoldsWith, holding}
use Rattle.calling_sequence.specs.Parts.{Falls}

-- where a run may stop without a bad answer: before its header or after it, where it is resumed, where the values of Initialization Mode or of an instant are found and one is lost on its way, after an instant, after a step, and before a size on the way to an agreement that a component doesn't take
abbrev pub IsHalt : Place → Type 0
IsHalt Made = Unit {0}
IsHalt (Restored s) = Unit {0}
IsHalt (Found values) = Unit {0}
IsHalt (Read s) = Unit {0}
IsHalt (InstantDone s again asked) = Unit {0}
IsHalt (Stepped s asked) = Unit {0}
IsHalt (Short w component end) = Unit {0}
IsHalt p = ⊥

-- ---- whole runs

-- the log of a run of a system that came to a bad answer, or to none so far: an instance couldn't be made; or all were made, and with these parameters and this plan the run stands where it may stop, or came from there to that answer
pub data Comes (system : System) : Option BadAnswer → List Sent → Type 0 where
  Unmade : (link : ℕ) (bad : BadAnswer) (log : List Sent) →
      StopsAt (shapes_of system) (making link system) bad log → Comes system (Some bad) log
  Stands : (bound : Bound) (plan : Plan) (p : Place) (made log : List Sent) (is : List Instant) →
      BindsParameters system bound → CountsBy system plan →
      IsAnswered (shapes_of system) (making plan.link system) made → Course system bound plan p log is →
      IsHalt p → Comes system None (made ++ log)
  Falling : (bound : Bound) (plan : Plan) (p : Place) (bad : BadAnswer)
      (made prefix more : List Sent) (is : List Instant) →
      BindsParameters system bound → CountsBy system plan →
      IsAnswered (shapes_of system) (making plan.link system) made → Course system bound plan p prefix is →
      Falls system (part_at system bound plan p) bad more →
      Comes system (Some bad) (made ++ (prefix ++ more))

-- ---- runs that are held or resumed, too

-- a countdown Clock or a changing one
abbrev pub IsArmable : Role → Type 0
IsArmable role = (role ≡ TimeClock Countdown) ⊎ (role ≡ TimeClock Changing)

-- timers that are armed are those of such Clocks
abbrev pub AreArmable : System → List Timer → Type 0
AreArmable system timers =
    (p : ℕ) (port : Port) (point : ℕ) → slice_get system.ports p ≡ Some port →
    slice_get timers p ≡ Some (Once point) → IsArmable port.role

-- there is a state for each component, and where the run is resumed no other Clock is armed
pub record MayBack (system : System) (s : Spot) (sizes : List ℕ) : Type 0 where
  pub each : length sizes ≡ length system.components
  pub armable : AreArmable system s.timers

-- the log of a whole run; of one that came to the point where it is held, and kept the state of each there, or got a bad answer to that; or of one whose instances were made and led back to their states, which goes on from there, or got a bad answer on the way back
pub data ComesAnyhow (system : System) : Option BadAnswer → List Sent → Type 0 where
  Wholly : (bad : Option BadAnswer) (log : List Sent) → Comes system bad log →
      ComesAnyhow system bad log
  Holding : (bound : Bound) (plan : Plan) (s : Spot) (made prefix kept : List Sent)
      (is : List Instant) → BindsParameters system bound → CountsBy system plan →
      IsAnswered (shapes_of system) (making plan.link system) made →
      Course system bound plan (InstantDone s false false) prefix is →
      IsAnswered (shapes_of system) (holding system) kept →
      ComesAnyhow system None (made ++ (prefix ++ kept))
  HoldingBadly : (bound : Bound) (plan : Plan) (s : Spot) (bad : BadAnswer)
      (made prefix kept : List Sent) (is : List Instant) → BindsParameters system bound →
      CountsBy system plan → IsAnswered (shapes_of system) (making plan.link system) made →
      Course system bound plan (InstantDone s false false) prefix is →
      StopsAt (shapes_of system) (holding system) bad kept →
      ComesAnyhow system (Some bad) (made ++ (prefix ++ kept))
  BackBadly : (bound : Bound) (plan : Plan) (s : Spot) (sizes : List ℕ) (bad : BadAnswer)
      (made back : List Sent) → BindsParameters system bound → CountsBy system plan →
      MayBack system s sizes →
      IsAnswered (shapes_of system) (making plan.link system) made →
      StopsAt (shapes_of system) (restoring s.t plan.stop sizes) bad back →
      ComesAnyhow system (Some bad) (made ++ back)
  BackStands : (bound : Bound) (plan : Plan) (s : Spot) (sizes : List ℕ) (p : Place)
      (made back log : List Sent) (is : List Instant) → BindsParameters system bound →
      CountsBy system plan → MayBack system s sizes →
      IsAnswered (shapes_of system) (making plan.link system) made →
      IsAnswered (shapes_of system) (restoring s.t plan.stop sizes) back →
      CourseIn system bound plan (FromHeld s) p log is → IsHalt p →
      ComesAnyhow system None (made ++ (back ++ log))
  BackFalling : (bound : Bound) (plan : Plan) (s : Spot) (sizes : List ℕ) (p : Place)
      (bad : BadAnswer) (made back prefix more : List Sent) (is : List Instant) →
      BindsParameters system bound → CountsBy system plan → MayBack system s sizes →
      IsAnswered (shapes_of system) (making plan.link system) made →
      IsAnswered (shapes_of system) (restoring s.t plan.stop sizes) back →
      CourseIn system bound plan (FromHeld s) p prefix is →
      Falls system (part_at system bound plan p) bad more →
      ComesAnyhow system (Some bad) (made ++ (back ++ (prefix ++ more)))

-- ---- by the end

-- what the end says of a bad answer; after a put that failed there may be one or none
abbrev pub TellsEnd : RunEnd → Option BadAnswer → Type 0
TellsEnd E.Stop bad = bad ≡ None
TellsEnd (E.Asked point) bad = bad ≡ None
TellsEnd (E.EventLimit point) bad = bad ≡ None
TellsEnd (E.FixedStep component at end) bad = bad ≡ None
TellsEnd (E.Range lost at) bad = bad ≡ None
TellsEnd (E.Held at) bad = bad ≡ None
TellsEnd (E.Bad b) bad = bad ≡ Some b
TellsEnd E.WriteFault bad = Unit {0}

-- each run that was made comes to a bad answer or to none, by its end
abbrev pub EndsCome : Type 0
EndsCome =
    (system : System) (bound : Bound) (plan : Plan) (made log : List Sent) (is : List Instant)
    (end : RunEnd) (before after : SinkView) → BindsParameters system bound →
    CountsBy system plan → IsAnswered (shapes_of system) (making plan.link system) made →
    EndsBy system bound plan log is end before after →
    (bad : Option BadAnswer) × TellsEnd end bad × Comes system bad (made ++ log)

-- likewise each that was made to be held
abbrev pub HoldsCome : Type 0
HoldsCome =
    (e : Experiment) (at : ℕ) (olds : List Instance) (made log : List Sent) (piece : List ℕ)
    (end : RunEnd) → BindsParameters e.system e.bound → CountsBy e.system e.plan →
    IsAnswered (shapes_of e.system) (making e.plan.link e.system) made →
    HoldsWith e at olds end log piece →
    (bad : Option BadAnswer) × TellsEnd end bad × ComesAnyhow e.system bad (made ++ log)

-- and each that was led back to its states
abbrev pub RestsCome : Type 0
RestsCome =
    (system : System) (bound : Bound) (plan : Plan) (s : Spot) (sizes : List ℕ)
    (made back log : List Sent) (is : List Instant) (end : RunEnd) (before after : SinkView) →
    BindsParameters system bound → CountsBy system plan → MayBack system s sizes →
    IsAnswered (shapes_of system) (making plan.link system) made →
    IsAnswered (shapes_of system) (restoring s.t plan.stop sizes) back →
    EndsIn system bound plan (FromHeld s) log is end before after →
    (bad : Option BadAnswer) × TellsEnd end bad ×
    ComesAnyhow system bad (made ++ (back ++ log))
