-- A run of told machines that is held: the checkpoint is that of the run's snapshot; and one that is resumed: what it puts is what is left of the run (FMI 3.0, 2.2.6: FMU state).
use Rattle.std.specs.Prelude.{◌≡◌, ℕ, ◌≤◌, Bool, true, false, List, ◌++◌, length, map}
use Rattle.fmu_peer.specs.Machine.{MachineState, kept}
use Rattle.system_model.specs.declared.bound.Bound.{Bound}
use Rattle.system_model.specs.declared.plan.EndKind.{EndKind}
use Rattle.system_model.specs.declared.plan.EndKind.TheVariants as K
use Rattle.system_model.specs.declared.plan.Plan.{Plan}
use Rattle.system_model.specs.Plans.{IsPlan}
use Rattle.system_model.specs.Sound.{IsSound}
use Rattle.system_model.specs.Text.{Instant, end_text}
use Rattle.run_model.specs.Initial.{first_states, instantiated}
use Rattle.run_model.specs.Machines.{AreMachines}
use Rattle.run_model.specs.Run.{Run, Situation}
use Rattle.run_model.specs.Trace.{IsTrace}
use Rattle.run_rest.specs.Held.{Held, HeldAt}
use Rattle.run_rest.specs.Packing.{Packing, packed}
use Rattle.run_rest.specs.Parted.{at_step, entering_step}
use Rattle.run_rest.specs.Snapshot.{snapshot_of, time_up_to, up_to}
use Rattle.system_checkpoint.specs.declared.snapshot.Snapshot.{Snapshot}
use Rattle.system_checkpoint.specs.Spelling.{CanBeHeld, spelling}
use Rattle.slot_calls.specs.declared.bad_answer.BadAnswer.{BadAnswer}
use Rattle.slot_calls.specs.Log.{Sent}
use Rattle.slot_calls.specs.Replies.{AreReplies, states_by}
use Rattle.slot_calls.specs.Stage.{IsAnswered, StopsAt, shapes_of}
use Rattle.step_agreement.specs.OverMachines.{IgnoreSlots}
use Rattle.calling_sequence.specs.declared.experiment.Experiment.{Experiment}
use Rattle.calling_sequence.specs.declared.run_end.RunEnd.{RunEnd}
use Rattle.calling_sequence.specs.declared.run_end.RunEnd.TheVariants as E
use Rattle.calling_sequence.specs.Calls as Calls
use Rattle.calling_sequence.specs.Course.{FromHeld, Spot, UpToHeld}
use Rattle.calling_sequence.specs.Ends.{EndsIn, FinishesIn, header_of, kind_of_end}
use Rattle.calling_sequence.specs.Holding.{ComesToHold, holding, kept_at}
use Rattle.machine_courses.specs.Prefixes.{LacksStepAt, LosesAt}
use Rattle.machine_courses.specs.Outcomes.{IsLost, Output}

-- ---- the checkpoint

abbrev pub experiment_of : Run → Experiment
experiment_of r = record { system = r.system; bound = r.bound; plan = r.plan }

-- where a run stands, as its values, timers and event times have it
abbrev pub spot_of : Situation → Spot
spot_of z = record { t = z.t; n = z.n; values = z.before; timers = z.timers; events = z.events }

abbrev pub packings_of : Run → List Packing
packings_of r = map (λ m. m.packing) r.machines

-- the checkpoint of a run where a step begins, with its snapshot's states as bytes
abbrev pub checkpoint_of : Run → Situation → Snapshot
checkpoint_of r z =
    kept_at (experiment_of r) (spot_of z)
    (packed (packings_of r) (snapshot_of r (at_step r z)).states)

-- a spot is where the run stands; an arming past the stop counts as none, and so does an event time
pub record StandsAs (r : Run) (z : Situation) (s : Spot) : Type 0 where
  pub point : z.t ≡ s.t
  pub values : z.before ≡ s.values
  pub timers : map (up_to r.plan.stop) z.timers ≡ map (up_to r.plan.stop) s.timers
  pub events : map (time_up_to r.plan.stop) z.events ≡ map (time_up_to r.plan.stop) s.events

-- ---- a run that is held

-- with this log a run ended so that was to be held from this point on, and this piece is put of it
pub data HoldsBy (r : Run) (at : ℕ) : RunEnd → List Sent → List ℕ → Type 0 where
  Early : (end : RunEnd) (point : ℕ) (log : List Sent) (is : List Instant) →
      FinishesIn r.system r.bound r.plan (UpToHeld at) end point log is →
      HoldsBy r at end log (end_text (kind_of_end end) point)
  BadlyHeld : (s : Spot) (bad : BadAnswer) (prefix more : List Sent) (is : List Instant) →
      ComesToHold (experiment_of r) at s prefix is →
      StopsAt (shapes_of r.system) (holding r.system) bad more →
      HoldsBy r at (E.Bad bad) (prefix ++ more) (end_text K.Fault s.t)
  -- the bytes are those of the states that the log leads to once each FMU is in Step Mode
  WellHeld : (s : Spot) (prefix entered keeping : List Sent) (is : List Instant) →
      ComesToHold (experiment_of r) at s prefix is →
      IsAnswered (shapes_of r.system) (Calls.entering_step r.system) entered →
      IsAnswered (shapes_of r.system) (Calls.keeping r.system) keeping →
      CanBeHeld r.system (kept_at (experiment_of r) s
      (packed (packings_of r) (map kept (states_by r (instantiated r) (prefix ++ entered))))) →
      HoldsBy r at (E.Held s.t) ((prefix ++ entered) ++ keeping)
      (spelling (header_of r.system r.plan) (kept_at (experiment_of r) s
      (packed (packings_of r) (map kept (states_by r (instantiated r) (prefix ++ entered))))))

-- each machine was made, and then a run of the system by its plan, whose replies are theirs, ended so
pub record IsHeldRunOf (r : Run) (at : ℕ) (made log : List Sent) (end : RunEnd)
    (piece : List ℕ) : Type 0 where
  pub sound : IsSound r.system
  pub plan : IsPlan r.plan
  pub machines : AreMachines r
  pub ignore : IgnoreSlots r
  pub making : IsAnswered (shapes_of r.system) (Calls.making r.plan.link r.system) made
  pub replies : AreReplies r (first_states r) (made ++ log)
  pub holds : HoldsBy r at end log piece

-- the checkpoint of the run where it is held, whose bytes are those of no other
pub record KeepsRun (r : Run) (at point : ℕ) (piece : List ℕ) : Type 0 where
  pub is : List Instant
  pub z : Situation
  pub held : HeldAt r at is z
  pub there : z.t ≡ point
  pub can : CanBeHeld r.system (checkpoint_of r z)
  pub put : piece ≡ spelling (header_of r.system r.plan) (checkpoint_of r z)

-- the end line of the trace
pub record EndsEarly (r : Run) (kind : EndKind) (point : ℕ) (piece : List ℕ) : Type 0 where
  pub is : List Instant
  pub trace : IsTrace r is kind point
  pub put : piece ≡ end_text kind point

-- by the end: the checkpoint where it is held, or the end line of the run that ended before
abbrev pub HoldsRun : Run → ℕ → RunEnd → List ℕ → Type 0
HoldsRun r at E.Stop piece = EndsEarly r K.Stop r.plan.stop piece
HoldsRun r at (E.Asked point) piece = EndsEarly r K.Asked point piece
HoldsRun r at (E.EventLimit point) piece = EndsEarly r K.Limit point piece
HoldsRun r at (E.FixedStep component point end) piece =
    EndsEarly r K.Fixed point piece × LacksStepAt r component.0 point end
HoldsRun r at (E.Range lost point) piece = EndsEarly r K.Range point piece × LosesAt r lost point
HoldsRun r at (E.Held point) piece = KeepsRun r at point piece
HoldsRun r at (E.Bad bad) piece = (point : ℕ) × (piece ≡ end_text K.Fault point)
HoldsRun r at E.WriteFault piece = ⊥

-- likewise of machines that behave well: nothing but a call that failed breaks their run off
abbrev pub HoldsWell : Run → ℕ → List Sent → RunEnd → List ℕ → Type 0
HoldsWell r at log (E.Bad bad) piece = IsLost (length r.system.components) log bad.why
HoldsWell r at log end piece = HoldsRun r at end piece

-- the run ended before it came to where it was to be held, and not by a bad answer
abbrev pub ends_before : RunEnd → Bool
ends_before E.Stop = true
ends_before (E.Asked point) = true
ends_before (E.EventLimit point) = true
ends_before (E.FixedStep component point end) = true
ends_before (E.Range lost point) = true
ends_before (E.Held point) = false
ends_before (E.Bad bad) = false
ends_before E.WriteFault = false

-- ---- a run that is resumed

-- the one plan is the other but for its workers and its link
abbrev pub GoesAs : Plan → Plan → Type 0
GoesAs own plan = record own { workers = plan.workers; link = plan.link } ≡ plan

-- where the machines' run stands at the step after these instants, a run of the system by a plan that goes as theirs was resumed, whose replies are theirs; it ended so with this log after these further instants, and put this
pub record IsRestOf (r : Run) (prefix : List Instant) (z : Situation) (s : Spot) (bound : Bound)
    (own : Plan) (log : List Sent) (is : List Instant) (end : RunEnd) (o : Output) : Type 0 where
  pub sound : IsSound r.system
  pub plan : IsPlan r.plan
  pub same : GoesAs own r.plan
  pub machines : AreMachines r
  pub ignore : IgnoreSlots r
  pub held : Held r prefix z
  pub begun : r.plan.start ≤ z.t
  pub stands : StandsAs r z s
  pub replies : AreReplies r (entering_step r z) log
  pub ends : EndsIn r.system bound own (FromHeld s) log is end o.before o.after
  pub counted : o.counted ≡ length is
