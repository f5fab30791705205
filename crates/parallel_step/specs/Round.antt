-- A round: each FMU of a run is sent the call of its own job (FMI 3.0, 4.2.1.2: fmi3DoStep; 2.2.6: fmi3GetFMUState, fmi3SetFMUState, fmi3FreeFMUState).
use Rattle.std.specs.Prelude.{◌≡◌, ℕ, ◌<◌, ◌≤◌, Bool, List, length, slice_index_or, Option, Some, None, Result, IfSome, OnOk, MatchOption, is_some}
use Rattle.fmi_calls.specs.declared.call.Call.{Call}
use Rattle.fmi_calls.specs.declared.call.Call.TheVariants as C
use Rattle.fmi_calls.specs.declared.phase.InstanceState.TheVariants as P
use Rattle.fmi_calls.specs.Permission.{Permitted}
use Rattle.fmu_peer.specs.declared.ended.Why.{Why}
use Rattle.fmu_peer.specs.declared.job.Job.{Job}
use Rattle.fmu_peer.specs.declared.job.Job.TheVariants as J
use Rattle.fmu_peer.specs.declared.slot.Slot.{Slot}
use Rattle.fmu_peer.specs.CloseAll.{instance_in, peer_in}
use Rattle.fmu_peer.specs.View.{View}
use Rattle.slot_calls.specs.Carried.{asks_to_end}
use Rattle.slot_calls.specs.Log.{One}
use Rattle.slot_calls.specs.Slots.{IsLive, state_of}

-- ---- lists, place by place

-- R holds between the lists at each place
pub record EachPair {A : Type 0} (R : A → A → Type 0) (xs ys : List A) : Type 0 where
  pub len : length ys ≡ length xs
  pub each : (i : ℕ) (d : A) → i < length xs → R (slice_index_or xs i d) (slice_index_or ys i d)

-- R holds below place i, and the rest is as it was
pub record PairsBelow {A : Type 0} (R : A → A → Type 0) (xs : List A) (i : ℕ)
    (ys : List A) : Type 0 where
  pub len : length ys ≡ length xs
  pub below : (k : ℕ) (d : A) → k < i → R (slice_index_or xs k d) (slice_index_or ys k d)
  pub rest : (k : ℕ) (d : A) → i ≤ k → slice_index_or ys k d ≡ slice_index_or xs k d

-- ---- jobs

-- the call of a job
abbrev pub call_in : Job → Option Call
call_in J.Nothing = None
call_in J.Save = Some C.Save
call_in J.Restore = Some C.Restore
call_in J.Free = Some C.Free
call_in (J.Step at size) = Some (C.DoStep at size)

-- the FMU of a slot is in Step Mode, by its token and by its phase, and may be sent the call, and its saved state is held exactly where its phase says that one is saved
pub record CanBeSent {L : Type 0} {g : _} (view : L → View) (slot : Slot L g)
    (call : Call) : Type 0 where
  pub stepping : state_of slot.held ≡ Some P.Step
  pub in_step : (view (peer_in slot.held)).phase.state ≡ P.Step
  pub permitted : Permitted (view (peer_in slot.held)).fixed.shape (view (peer_in slot.held)).phase
      call
  pub token : is_some slot.saved ≡ (view (peer_in slot.held)).phase.slot.is_full

abbrev pub CanWork : {L : Type 0} {g : _} → (L → View) → Slot L g → Type 0
CanWork view slot = IfSome (call_in slot.job) (CanBeSent view slot)

-- the FMU of a slot was sent this call alone, and is held in the state of its phase where the answer is good
pub record Did {L : Type 0} {g : _} (view : L → View) (call : Call) (old new : Slot L g)
    (result : Result Bool Why) : Type 0 where
  pub one : One call asks_to_end (instance_in view old) (instance_in view new) result
  pub live : OnOk result (IsLive view new.held)
  pub job_is : new.job ≡ old.job

-- likewise, and its answer stands in the slot
pub record WasSent {L : Type 0} {g : _} (view : L → View) (old new : Slot L g)
    (call : Call) : Type 0 where
  pub answer : Result Bool Why
  pub answer_is : new.answer ≡ Some answer
  pub did : Did view call old new answer

-- the job of a slot was done, and where it has none it is as it was
abbrev pub Works : {L : Type 0} {g : _} → (L → View) → Slot L g → Slot L g → Type 0
Works view old new = MatchOption (call_in old.job) (new ≡ old) (WasSent view old new)
