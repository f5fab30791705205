-- What a master is to its callers, and what its calls make of it and of its peers, for any replies (FMI 3.0, 4.2.1).
use Rattle.std.specs.Prelude.{◌≡◌, ℕ, Bool, true, false, List, length, Option, None}
use Rattle.sim_base.specs.Sink.{SinkView}
use Rattle.fmu_peer.specs.CloseAll.{ClosesAll, Instance}
use Rattle.fmu_peer.specs.View.{View}
use Rattle.system_model.specs.declared.bound.Bound.{Bound}
use Rattle.system_model.specs.declared.plan.Plan.{Plan}
use Rattle.system_model.specs.declared.system.System.{System}
use Rattle.system_model.specs.Text.{Instant}
use Rattle.system_checkpoint.specs.declared.snapshot.Snapshot.{Snapshot}
use Rattle.slot_calls.specs.declared.bad_answer.BadAnswer.{BadAnswer}
use Rattle.step_master.specs.declared.prepare_end.PrepareFault.{PrepareFault}
use Rattle.step_master.specs.declared.prepare_end.PrepareFault.TheVariants as F
use Rattle.calling_sequence.specs.declared.run_end.RunEnd.{RunEnd}
use Rattle.calling_sequence.specs.Calls.{making}
use Rattle.calling_sequence.specs.Ends.{EndsBy}
use Rattle.slot_calls.specs.Log.{Sent, Told}
use Rattle.step_master.specs.FreshInstances.{fresh_instances, views_of}
use Rattle.slot_calls.specs.Stage.{IsAnswered, StopsAt, shapes_of}
use Rattle.step_master.specs.System.{MachinesMatchShapes}

-- what it runs, with which values of the parameters, what the run goes on from where it is resumed, its instances in the order of the components, whether it was run, and how many instants it put
pub record Standing : Type 0 where
  pub system : System
  pub bound : Bound
  pub plan : Plan
  pub held : Option Snapshot
  pub instances : List Instance
  pub was_run : Bool
  pub instants : ℕ

-- ---- closing

-- the instances were closed in their order, and these are their peers
pub record Closes (olds : List Instance) (news : List View) : Type 0 where
  pub ends : List Instance
  pub closes : ClosesAll olds ends
  pub news_are : news ≡ views_of ends

-- ---- preparing

-- each instance was made, and nothing else was sent; what the peers tell are machines of their shapes
pub record Makes (system : System) (link : ℕ) (views : List View)
    (made : List Instance) : Type 0 where
  pub log : List Sent
  pub told : Told log (fresh_instances system.components views) made
  pub answered : IsAnswered (shapes_of system) (making link system) log
  pub machines : MachinesMatchShapes system views

-- a master with instances that were made, for a whole run
pub record Prepares (system : System) (bound : Bound) (plan : Plan) (views : List View)
    (new : Standing) : Type 0 where
  pub log : List Sent
  pub told : Told log (fresh_instances system.components views) new.instances
  pub answered : IsAnswered (shapes_of system) (making plan.link system) log
  pub system_is : new.system ≡ system
  pub bound_is : new.bound ≡ bound
  pub plan_is : new.plan ≡ plan
  pub whole : new.held ≡ None
  pub unrun : new.was_run ≡ false
  pub none : new.instants ≡ 0
  pub machines : MachinesMatchShapes system views

-- the answer to an Instantiate isn't good: no further was sent, and all were closed
pub record IsUnmade (system : System) (link : ℕ) (views : List View) (bad : BadAnswer)
    (news : List View) : Type 0 where
  pub log : List Sent
  pub mids : List Instance
  pub told : Told log (fresh_instances system.components views) mids
  pub stops : StopsAt (shapes_of system) (making link system) bad log
  pub closes : Closes mids news

-- where memory runs out, nothing was sent
abbrev pub FailsToPrepare : System → ℕ → List View → PrepareFault → List View → Type 0
FailsToPrepare system link views F.Memory news = news ≡ views
FailsToPrepare system link views (F.Bad bad) news = IsUnmade system link views bad news

-- ---- running

-- a run: its log, the instants that were put, and how it ended
pub record Runs (old new : Standing) (before after : SinkView) (end : RunEnd) : Type 0 where
  pub log : List Sent
  pub is : List Instant
  pub told : Told log old.instances new.instances
  pub ends : EndsBy old.system old.bound old.plan log is end before after
  pub system_is : new.system ≡ old.system
  pub bound_is : new.bound ≡ old.bound
  pub plan_is : new.plan ≡ old.plan
  pub run : new.was_run ≡ true
  pub counted : new.instants ≡ length is
