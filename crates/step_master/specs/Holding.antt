-- What becomes of a master whose run is held, and of one that is resumed, for any replies (FMI 3.0, 2.2.6: FMU state).
use Rattle.std.specs.Prelude.{◌≡◌, ℕ, true, false, List, Option, Some, None}
use Rattle.sim_base.specs.Sink.{SinkView}
use Rattle.fmu_peer.specs.View.{View}
use Rattle.system_model.specs.declared.plan.Plan.{Plan}
use Rattle.system_model.specs.declared.system.System.{System}
use Rattle.system_checkpoint.specs.declared.snapshot.Snapshot.{Snapshot}
use Rattle.slot_calls.specs.Log.{Sent, Told}
use Rattle.slot_calls.specs.Stage.{IsAnswered, shapes_of}
use Rattle.calling_sequence.specs.declared.experiment.Experiment.{Experiment}
use Rattle.calling_sequence.specs.declared.run_end.RunEnd.{RunEnd}
use Rattle.calling_sequence.specs.Calls.{making}
use Rattle.calling_sequence.specs.Holding.{HoldsSlots, ResumesSlots, spot_in}
use Rattle.step_master.specs.Master.{Runs, Standing}
use Rattle.step_master.specs.FreshInstances.{fresh_instances}
use Rattle.step_master.specs.System.{MachinesMatchShapes}

abbrev pub experiment_of : Standing → Experiment
experiment_of s = record { system = s.system; bound = s.bound; plan = s.plan }

-- it runs what it ran, and was run
pub record Stays (old new : Standing) : Type 0 where
  pub system_is : new.system ≡ old.system
  pub bound_is : new.bound ≡ old.bound
  pub plan_is : new.plan ≡ old.plan
  pub run : new.was_run ≡ true

-- a run that is held from a point on
pub record Holds (at : ℕ) (old new : Standing) (before after : SinkView)
    (end : RunEnd) : Type 0 where
  pub holds : HoldsSlots (experiment_of old) at old.instances new.instances before after end
  pub stays : Stays old new

-- each instance was made for a run that goes on from what was held, and nothing else was sent; what the peers tell are machines of their shapes
pub record PreparesRest (system : System) (plan : Plan) (held : Snapshot) (views : List View)
    (new : Standing) : Type 0 where
  pub log : List Sent
  pub told : Told log (fresh_instances system.components views) new.instances
  pub answered : IsAnswered (shapes_of system) (making plan.link system) log
  pub system_is : new.system ≡ system
  pub plan_is : new.plan ≡ plan
  pub held_is : new.held ≡ Some held
  pub unrun : new.was_run ≡ false
  pub none : new.instants ≡ 0
  pub machines : MachinesMatchShapes system views

-- a run that is resumed from what was held
pub record Rests (held : Snapshot) (old new : Standing) (before after : SinkView)
    (end : RunEnd) : Type 0 where
  pub resumes : ResumesSlots (experiment_of old) (spot_in old.system held) held.states old.instances
      new.instances before after new.instants end
  pub stays : Stays old new

-- a whole run, or one that is resumed
abbrev pub RunsFrom : Option Snapshot → (old new : Standing) → (before after : SinkView) →
    RunEnd → Type 0
RunsFrom None old new before after end = Runs old new before after end
RunsFrom (Some held) old new before after end = Rests held old new before after end
