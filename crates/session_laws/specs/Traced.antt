-- What is put where the peers tell machines: the run of these so far, and their one trace (FMI 3.0, 4.2.1: Co-Simulation).
use Rattle.std.specs.Prelude.{◌≡◌, ◌⊎◌, ℕ, ◌≤◌, true, List, length, Some}
use Rattle.std.specs.List.{slice_get}
use Rattle.sim_base.specs.Causes.{Rose}
use Rattle.fmu_peer.specs.Answer.{IsLink}
use Rattle.fmu_peer.specs.Machine.{Machine}
use Rattle.fmu_peer.specs.View.{View}
use Rattle.system_model.specs.declared.bound.Bound.{Bound}
use Rattle.system_model.specs.declared.system.System.{System}
use Rattle.system_model.specs.Bounds.{BindsParameters}
use Rattle.system_model.specs.Sound.{IsSound}
use Rattle.run_model.specs.Behaved.{WellBehaved}
use Rattle.system_model.specs.Text.{Instant}
use Rattle.run_model.specs.Run.{Run, Situation}
use Rattle.run_rest.specs.Held.{Held, HeldAt}
use Rattle.run_rest.specs.Laws.{StepsWithin}
use Rattle.run_rest.specs.Packing.{ReadsBack}
use Rattle.system_checkpoint.specs.declared.snapshot.Snapshot.{Snapshot}
use Rattle.slot_calls.specs.declared.bad_answer.BadAnswer.{BadAnswer}
use Rattle.calling_sequence.specs.declared.run_end.RunEnd.{RunEnd}
use Rattle.calling_sequence.specs.declared.run_end.RunEnd.TheVariants as E
use Rattle.trace_text.specs.Holding.{IsHoldable}
use Rattle.calling_sequence.specs.Ready.{IsPlanOf}
use Rattle.system_model.specs.Plans.{IsPlan}
use Rattle.machine_courses.specs.Held.{HoldsRun, checkpoint_of, ends_before, packings_of}
use Rattle.machine_courses.specs.Kept.{PutsState, TakesState}
use Rattle.machine_courses.specs.Outcomes.{Output, PutsPrefixOfTraceIn, PutsRun, PutsRunIn, Stretch, rest_after, whole_of}
use Rattle.step_master.specs.Sessions.{Account, FailedStart, HeldSession, ResumedSession, Session}

-- ---- machines

-- each peer tells a machine, in its first state
pub record AreMachinesOf (views : List View) (machines : List Machine) : Type 0 where
  pub count : length machines ≡ length views
  pub each : (i : ℕ) (v : View) (m : Machine) → slice_get views i ≡ Some v →
      slice_get machines i ≡ Some m → (v.fixed.machine ≡ Some m) × (v.state ≡ Some m.first)

-- a run of the system with these values of its parameters and these machines
pub record IsRunOf (system : System) (bound : Bound) (views : List View) (r : Run) : Type 0 where
  pub system_is : r.system ≡ system
  pub bound_is : r.bound ≡ bound
  pub tell : AreMachinesOf views r.machines

-- ---- what was put

abbrev pub output_of : Account → Output
output_of a = record { before = a.before; after = a.after; counted = a.instants }

-- the count of a peer rose
pub record SomeFaultCounted (olds news : List View) : Type 0 where
  pub place : ℕ
  pub old : View
  pub new : View
  pub before : slice_get olds place ≡ Some old
  pub after : slice_get news place ≡ Some new
  pub rose : Rose old.faults new.faults

-- nothing but a call that failed breaks the run of machines that behave well off, or a put; so far as this stretch of it goes
abbrev pub TracesWellIn : Account → Run → Stretch → RunEnd → Type 0
TracesWellIn a r part (E.Bad bad) = IsLink bad.why × SomeFaultCounted a.olds a.news
TracesWellIn a r part E.WriteFault = SomeFaultCounted a.olds a.news ⊎
    PutsPrefixOfTraceIn r part (output_of a)
TracesWellIn a r part end = PutsRunIn r part (output_of a) end

-- of a whole run
abbrev pub TracesWell : Account → Run → RunEnd → Type 0
TracesWell a r end = TracesWellIn a r (whole_of r) end

-- and nothing but a call that failed that of one which is held
abbrev pub HoldsWell : Account → Run → ℕ → RunEnd → List ℕ → Type 0
HoldsWell a r at (E.Bad bad) piece = IsLink bad.why × SomeFaultCounted a.olds a.news
HoldsWell a r at end piece = HoldsRun r at end piece

-- ---- laws

-- the instants that were put are those of the run of told machines
abbrev pub ToldRun : Type 0
ToldRun =
    (a : Account) (r : Run) → IsSound a.system → IsPlan a.plan →
    IsRunOf a.system a.bound a.olds r → r.plan ≡ a.plan → Session a → PutsRun r (output_of a) a.end

-- of told machines that behave well the text of their trace is put
abbrev pub ToldTrace : Type 0
ToldTrace =
    (a : Account) (r : Run) → IsSound a.system →
    BindsParameters a.system a.bound → IsPlan a.plan → IsRunOf a.system a.bound a.olds r →
    r.plan ≡ a.plan → WellBehaved r → Session a → TracesWell a r a.end

-- where their run was to be held, the checkpoint that is put is that of its snapshot there
abbrev pub ToldHeld : Type 0
ToldHeld =
    (a : Account) (at : ℕ) (r : Run) → IsSound a.system → IsPlan a.plan →
    IsRunOf a.system a.bound a.olds r → r.plan ≡ a.plan → (h : HeldSession a at) →
    HoldsRun r at h.outcome h.piece

-- and of machines that behave well and put their states well, it is put but for a call that failed
abbrev pub ToldHeldWell : Type 0
ToldHeldWell =
    (a : Account) (at : ℕ) (r : Run) → IsSound a.system →
    BindsParameters a.system a.bound → IsPlan a.plan → IsHoldable a.system a.plan →
    IsRunOf a.system a.bound a.olds r → r.plan ≡ a.plan → WellBehaved r →
    ((i : ℕ) → PutsState r i) → (h : HeldSession a at) → HoldsWell a r at h.outcome h.piece

-- and where their run ended before, it came to no such point
abbrev pub ToldNone : Type 0
ToldNone =
    (a : Account) (at : ℕ) (r : Run) → IsSound a.system → IsPlan a.plan →
    IsRunOf a.system a.bound a.olds r → r.plan ≡ a.plan → StepsWithin r → (h : HeldSession a at) →
    ends_before h.outcome ≡ true → (is : List Instant) (z : Situation) → HeldAt r at is z → ⊥

-- where a run was resumed with that checkpoint, by its plan but for the workers and the link, and their states are read back as they were saved, what is put is what is left of their run
abbrev pub ToldRest : Type 0
ToldRest =
    (a : Account) (r : Run) (prefix : List Instant) (z : Situation) (held : Snapshot) →
    IsSound a.system → IsPlan a.plan → r.system ≡ a.system → IsPlanOf a.plan held →
    AreMachinesOf a.olds r.machines → ReadsBack r (packings_of r) → Held r prefix z →
    r.plan.start ≤ z.t → held ≡ checkpoint_of r z → ResumedSession a held →
    PutsRunIn r (rest_after prefix) (output_of a) a.end

-- and where they behave well and take in their states well, nothing but a call that failed breaks it off, or a put
abbrev pub ToldRestWell : Type 0
ToldRestWell =
    (a : Account) (r : Run) (prefix : List Instant) (z : Situation) (held : Snapshot) →
    IsSound a.system → BindsParameters a.system r.bound → IsPlan a.plan →
    IsHoldable a.system a.plan → r.system ≡ a.system → IsPlanOf a.plan held →
    AreMachinesOf a.olds r.machines → WellBehaved r → ReadsBack r (packings_of r) →
    ((i : ℕ) → TakesState r a.plan i) → Held r prefix z → r.plan.start ≤ z.t →
    held ≡ checkpoint_of r z → ResumedSession a held → TracesWellIn a r (rest_after prefix) a.end

-- and their system is prepared, but for a call that failed
abbrev pub ToldFailedStart : Type 0
ToldFailedStart =
    (system : System) (bound : Bound) (olds news : List View) (bad : BadAnswer) (r : Run) →
    IsSound system → IsRunOf system bound olds r → WellBehaved r → FailedStart system r.plan.link olds bad news →
    IsLink bad.why × SomeFaultCounted olds news
