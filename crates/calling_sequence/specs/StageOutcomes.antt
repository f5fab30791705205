-- What a stage of a run is to it: it leads the run from one place to the next, or to an end.
use Rattle.std.specs.Prelude.{◌≡◌, ◌<◌, ℕ, Bool, false, List, Option, Some, None, Result, Ok, Err}
use Rattle.sim_base.specs.Sink.{SinkView}
use Rattle.fmu_peer.specs.CloseAll.{Instance}
use Rattle.event_iteration.specs.Clocks.{is_due_at, timers_in}
use Rattle.event_iteration.specs.declared.updates.Updated.{Updated}
use Rattle.slot_calls.specs.declared.bad_answer.BadAnswer.{BadAnswer}
use Rattle.rollback.specs.declared.step_end.Agreed.{Agreed}
use Rattle.calling_sequence.specs.declared.experiment.Experiment.{Experiment}
use Rattle.calling_sequence.specs.declared.buffers.Buffers.{Buffers}
use Rattle.calling_sequence.specs.declared.ending.Break.{Break}
use Rattle.calling_sequence.specs.declared.ending.Break.TheVariants as B
use Rattle.calling_sequence.specs.declared.ending.Ending.{Ending}
use Rattle.calling_sequence.specs.declared.run_end.RunEnd.TheVariants as E
use Rattle.calling_sequence.specs.Course.{Before, Extent, InstantDone, MayLeave, Place, Spot, Stepped, Timed, Way}
use Rattle.calling_sequence.specs.Ends.{RunsIn, point_of, puts_instants}
use Rattle.calling_sequence.specs.Here.{Follows, Here, Past}

-- ---- places, by what the code holds

abbrev pub spot : (t n : ℕ) → Buffers → Spot
spot t n b = record {
  t = t;
  n = n;
  values = b.values;
  timers = timers_in b.schedule;
  events = b.schedule.events;
}

abbrev pub timed : Buffers → Place
timed b = Timed (timers_in b.schedule)

abbrev pub before_instant : (t n : ℕ) → Buffers → Place
before_instant t n b = Before (spot t n b) (is_due_at b.schedule t)

abbrev pub instant_done : (t n : ℕ) → Buffers → Updated → Place
instant_done t n b u = InstantDone (spot t n b) u.again u.asked

abbrev pub way : (t n : ℕ) → Buffers → (to : ℕ) → Way
way t n b to = record { s = spot t n b; to = to }

-- after a step, at the point that all reached
abbrev pub stepped_to : Spot → Agreed → Place
stepped_to s agreed = Stepped (record s { t = agreed.point; n = 0 }) agreed.asked

-- ---- stages

-- whatever the run was before: where it stands at the one place, it comes to the other
abbrev pub ReachesPlace : Experiment → (p q : Place) → (mids news : List Instance) →
    (present after : SinkView) → (count counted : ℕ) → Type 0
ReachesPlace e p q mids news present after count counted =
    (olds : List Instance) (past : Past) → Here e olds past p mids present count →
    Here e olds past q news after counted

-- it comes to this end
abbrev pub ReachesEnd : Experiment → Place → Ending → (mids news : List Instance) →
    (present after : SinkView) → (count counted : ℕ) → Type 0
ReachesEnd e p ending mids news present after count counted =
    (olds : List Instance) (past : Past) → Here e olds past p mids present count →
    Follows e past.extent olds past.sink ending news after counted

-- a stage that puts nothing: from the one place to the other, which its value tells, or to the end by a bad answer
abbrev pub StageOutcome : {T : Type 0} → Experiment → Place → (T → Place) →
    (mids news : List Instance) →
    (count counted : ℕ) → Result T BadAnswer → Type 0
StageOutcome e p q mids news count counted (Ok x) =
    (v : SinkView) → ReachesPlace e p (q x) mids news v v count counted
StageOutcome e p q mids news count counted (Err bad) =
    (v : SinkView) →
    ReachesEnd e p (record { end = E.Bad bad; point = point_of e.plan p }) mids news v v count
    counted

-- a stage that puts nothing and may come to any end
abbrev pub Crosses : {T : Type 0} → Experiment → Place → (T → Place) → (mids news : List Instance) →
    (count counted : ℕ) → Result T Ending → Type 0
Crosses e p q mids news count counted (Ok x) =
    (v : SinkView) → ReachesPlace e p (q x) mids news v v count counted
Crosses e p q mids news count counted (Err ending) =
    (v : SinkView) → ReachesEnd e p ending mids news v v count counted

-- what is told by a value, or where there is none by how the run ends
abbrev pub or_ends : {T : Type 0} → Option T → Ending → Result T Ending
or_ends (Some x) ending = Ok x
or_ends None ending = Err ending

-- the same of a step from a point
abbrev pub StepsFrom : {T : Type 0} → Experiment → (t : ℕ) → Place → (T → Place) →
    (mids news : List Instance) → (count counted : ℕ) → Result T Ending → Type 0
StepsFrom e t p q mids news count counted (Ok x) =
    (v : SinkView) (olds : List Instance) (past : Past) → MayLeave past.extent t →
    Here e olds past p mids v count → Here e olds past (q x) news v counted
StepsFrom e t p q mids news count counted (Err ending) =
    (v : SinkView) (olds : List Instance) (past : Past) → MayLeave past.extent t →
    Here e olds past p mids v count →
    Follows e past.extent olds past.sink ending news v counted

-- it breaks off so
abbrev pub BreaksOff : Experiment → (olds : List Instance) → Past → (news : List Instance) →
    (after : SinkView) → (counted : ℕ) → Break → Type 0
BreaksOff e olds past news after counted (B.Ends ending) =
    Follows e past.extent olds past.sink ending news after counted
BreaksOff e olds past news after counted B.Write =
    RunsIn e.system e.bound e.plan past.extent olds news past.sink after counted E.WriteFault

-- ---- instants that may be put

-- what is told by a value, or where there is none by what breaks the run off
abbrev pub or_breaks : {T : Type 0} → Option T → Break → Result T Break
or_breaks (Some x) broken = Ok x
or_breaks None broken = Err broken

-- a stage that takes an instant, and puts it or doesn't
abbrev pub Puts : {T : Type 0} → Experiment → (puts : Bool) → Place → (T → Place) →
    (mids news : List Instance) → (present after : SinkView) → (count counted : ℕ) →
    Result T Break → Type 0
Puts e puts p q mids news present after count counted (Ok x) =
    (olds : List Instance) (past : Past) → puts_instants past.extent ≡ puts →
    Here e olds past p mids present count → Here e olds past (q x) news after counted
Puts e puts p q mids news present after count counted (Err b) =
    (olds : List Instance) (past : Past) → puts_instants past.extent ≡ puts →
    Here e olds past p mids present count → BreaksOff e olds past news after counted b

-- its instants are put or aren't, and steps begin at each point below the limit
pub record GoesUpTo (extent : Extent) (puts : Bool) (limit : ℕ) : Type 0 where
  pub puts_them : puts_instants extent ≡ puts
  pub leaves : (t : ℕ) → t < limit → MayLeave extent t

-- a stage that takes all instants from a place on, up to a point where the run is held, or to the end
abbrev pub ComesTo : Experiment → (puts : Bool) → (limit : ℕ) → Place → Buffers →
    (mids news : List Instance) → (present after : SinkView) → (count counted : ℕ) →
    Result ℕ Break → Type 0
ComesTo e puts limit p b mids news present after count counted (Ok t) =
    (olds : List Instance) (past : Past) → GoesUpTo past.extent puts limit →
    Here e olds past p mids present count →
    (n : ℕ) × Here e olds past (InstantDone (spot t n b) false false) news after counted
ComesTo e puts limit p b mids news present after count counted (Err broken) =
    (olds : List Instance) (past : Past) → GoesUpTo past.extent puts limit →
    Here e olds past p mids present count → BreaksOff e olds past news after counted broken

-- the same to the end alone
abbrev pub Breaks : Experiment → (puts : Bool) → (limit : ℕ) → Place →
    (mids news : List Instance) → (present after : SinkView) → (count counted : ℕ) → Break →
    Type 0
Breaks e puts limit p mids news present after count counted broken =
    (olds : List Instance) (past : Past) → GoesUpTo past.extent puts limit →
    Here e olds past p mids present count → BreaksOff e olds past news after counted broken
