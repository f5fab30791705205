-- A log of told machines is their run, and machines that behave well get no bad answer.
use Rattle.std.specs.Prelude.{◌≡◌, ℕ, true, List, ◌++◌, length}
use Rattle.system_model.specs.declared.bound.Bound.{Bound}
use Rattle.system_model.specs.declared.plan.Plan.{Plan}
use Rattle.system_model.specs.Bounds.{BindsParameters}
use Rattle.system_model.specs.Sound.{IsSound}
use Rattle.system_model.specs.Text.{Instant}
use Rattle.run_model.specs.Behaved.{WellBehaved}
use Rattle.run_model.specs.Initial.{first_states}
use Rattle.run_model.specs.Machines.{AreMachines}
use Rattle.run_model.specs.Run.{Run, Situation}
use Rattle.run_rest.specs.Held.{Held, HeldAt}
use Rattle.run_rest.specs.Laws.{StepsWithin}
use Rattle.slot_calls.specs.declared.bad_answer.BadAnswer.{BadAnswer}
use Rattle.slot_calls.specs.Log.{Sent}
use Rattle.slot_calls.specs.Replies.{AreReplies}
use Rattle.slot_calls.specs.Stage.{IsAnswered, StopsAt, shapes_of}
use Rattle.step_agreement.specs.OverMachines.{IgnoreSlots}
use Rattle.calling_sequence.specs.declared.run_end.RunEnd.{RunEnd}
use Rattle.calling_sequence.specs.Calls.{making}
use Rattle.calling_sequence.specs.Course.{Spot}
use Rattle.calling_sequence.specs.Ends.{EndsBy}
use Rattle.calling_sequence.specs.Holding.{spot_in}
use Rattle.calling_sequence.specs.Ready.{CanKeep}
use Rattle.system_model.specs.Plans.{IsPlan}
use Rattle.machine_courses.specs.Held.{HoldsRun, HoldsWell, IsHeldRunOf, IsRestOf, StandsAs, checkpoint_of, ends_before}
use Rattle.machine_courses.specs.Kept.{PutsState}
use Rattle.machine_courses.specs.Outcomes.{IsLost, Output, PutsRun, PutsRunIn, TracesWell, TracesWellIn, rest_after}

-- each machine was made, and then a run of the system by its plan, whose replies are theirs, ended so with this log after these instants, and put this
pub record IsRunOf (r : Run) (made log : List Sent) (is : List Instant) (end : RunEnd)
    (o : Output) : Type 0 where
  pub sound : IsSound r.system
  pub plan : IsPlan r.plan
  pub machines : AreMachines r
  pub ignore : IgnoreSlots r
  pub making : IsAnswered (shapes_of r.system) (making r.plan.link r.system) made
  pub replies : AreReplies r (first_states r) (made ++ log)
  pub ends : EndsBy r.system r.bound r.plan log is end o.before o.after
  pub counted : o.counted ≡ length is

-- the instants that were put are those of the run of these machines
abbrev pub RunByLog : Type 0
RunByLog =
    (r : Run) (made log : List Sent) (is : List Instant) (end : RunEnd) (o : Output) →
    IsRunOf r made log is end o → PutsRun r o end

-- of machines that behave well the text of their trace is put, but for a call or a put that failed
abbrev pub TraceByLog : Type 0
TraceByLog =
    (r : Run) (made log : List Sent) (is : List Instant) (end : RunEnd) (o : Output) →
    BindsParameters r.system r.bound → WellBehaved r →
    IsRunOf r made log is end o → TracesWell r log o end

-- and none of them isn't made, but for a call that failed
abbrev pub UnmadeByLog : Type 0
UnmadeByLog =
    (r : Run) (bad : BadAnswer) (log : List Sent) →
    length r.machines ≡ length r.system.components → WellBehaved r →
    AreReplies r (first_states r) log → StopsAt (shapes_of r.system) (making r.plan.link r.system) bad log →
    IsLost (length r.system.components) log bad.why

-- ---- a run that is held, and one that is resumed

-- the checkpoint that is put is that of the snapshot of the machines' run where it is held
abbrev pub HeldByLog : Type 0
HeldByLog =
    (r : Run) (at : ℕ) (made log : List Sent) (end : RunEnd) (piece : List ℕ) →
    IsHeldRunOf r at made log end piece → HoldsRun r at end piece

-- and nothing but a call that failed breaks off the run of machines that behave well and put their states well
abbrev pub HeldWellByLog : Type 0
HeldWellByLog =
    (r : Run) (at : ℕ) (made log : List Sent) (end : RunEnd) (piece : List ℕ) →
    BindsParameters r.system r.bound → WellBehaved r → CanKeep r.system r.plan →
    ((i : ℕ) → PutsState r i) → IsHeldRunOf r at made log end piece → HoldsWell r at log end piece

-- and where their run ended before, it came to no such point
abbrev pub EarlyHasNone : Type 0
EarlyHasNone =
    (r : Run) (at : ℕ) (made log : List Sent) (end : RunEnd) (piece : List ℕ) → StepsWithin r →
    IsHeldRunOf r at made log end piece → ends_before end ≡ true → (is : List Instant)
    (z : Situation) → HeldAt r at is z → ⊥

-- where a run is resumed by its checkpoint, it stands as the run that was held
abbrev pub SnapshotsStand : Type 0
SnapshotsStand =
    (r : Run) → IsSound r.system → IsPlan r.plan → AreMachines r → (prefix : List Instant)
    (z : Situation) → Held r prefix z → StandsAs r z (spot_in r.system (checkpoint_of r z))

-- the instants that a resumed run puts are those of the run of these machines after the instants before, whatever its workers and its link
abbrev pub RestByLog : Type 0
RestByLog =
    (r : Run) (prefix : List Instant) (z : Situation) (s : Spot) (bound : Bound) (own : Plan)
    (log : List Sent) (is : List Instant) (end : RunEnd) (o : Output) →
    IsRestOf r prefix z s bound own log is end o → PutsRunIn r (rest_after prefix) o end

-- and where these behave well, nothing but a call that failed breaks it off, or a put
abbrev pub RestWellByLog : Type 0
RestWellByLog =
    (r : Run) (prefix : List Instant) (z : Situation) (s : Spot) (bound : Bound) (own : Plan)
    (log : List Sent) (is : List Instant) (end : RunEnd) (o : Output) →
    BindsParameters r.system r.bound → WellBehaved r →
    IsRestOf r prefix z s bound own log is end o → TracesWellIn r (rest_after prefix) log o end
