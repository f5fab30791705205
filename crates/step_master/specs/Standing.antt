-- What a master is to its callers, by its fields.
use Rattle.fmu_peer.specs.View.{View}
use Rattle.step_master.specs.declared.master.Master.{Master}
use Rattle.step_master.specs.Master.{Standing}
use Rattle.slot_calls.specs.Slots.{instances}
use Rattle.system_checkpoint.specs.declared.snapshot.Snapshot.{Snapshot}
use Rattle.trace_text.specs.Holding.{IsHoldable}
use Rattle.calling_sequence.specs.StageOutcomes.{spot}
use Rattle.calling_sequence.specs.Holding.{spot_in}
use Rattle.calling_sequence.specs.Ready.{IsRoomy, MayBegin, MayResume}
use Rattle.std.specs.Prelude.{◌≡◌, false, Option, Some, None}

abbrev pub standing : {L : Type 0} {g : _} → (L → View) → Master L g → Standing
standing view m = record {
  system = m.experiment.system;
  bound = m.experiment.bound;
  plan = m.experiment.plan;
  held = m.held;
  instances = instances view m.slot_table.slots.items;
  was_run = m.was_run;
  instants = m.buffers.instants;
}

-- a run that is resumed stands where it was held
pub record IsResumed {L : Type 0} {g : _} (view : L → View) (held : Snapshot)
    (m : Master L g) : Type 0 where
  pub may : MayResume view m.experiment held.point held.states m.slot_table.slots.items m.buffers
  pub spot_is : spot held.point 0 m.buffers ≡ spot_in m.experiment.system held

-- a whole run may begin, or one that is resumed
abbrev pub MayRun : {L : Type 0} {g : _} → (L → View) → Master L g → Option Snapshot → Type 0
MayRun view m None = MayBegin view m.experiment m.slot_table.slots.items m.buffers
MayRun view m (Some held) = IsResumed view held m

-- prepared, and not run yet: each instance was made, and there is room for each value and each text, and where the run can be held for each state
pub record IsReady {L : Type 0} {g : _} (view : L → View) (m : Master L g) : Type 0 where
  pub unrun : m.was_run ≡ false
  pub begins : MayRun view m m.held
  pub roomy : m.held ≡ None → IsHoldable m.experiment.system m.experiment.plan →
      IsRoomy m.experiment.system m.experiment.plan m.keeping
