-- The state of an FMU as bytes: saved, put as bytes and freed in Step Mode; taken in, gone back to and freed before Initialization Mode (FMI 3.0, 2.2.6: FMU state).
use Rattle.std.specs.Prelude.{◌≡◌, ℕ, ◌<◌, List, [], ◌∷◌, true, false, Option, Some, None, option_map, Result, Ok, Err, OnOk, length, map, slice_index_or}
use Rattle.fmi_calls.specs.declared.call.Call.{Call}
use Rattle.fmi_calls.specs.declared.call.Call.TheVariants as C
use Rattle.fmi_calls.specs.declared.call.Reply.{Reply}
use Rattle.fmi_calls.specs.declared.phase.InstanceState.TheVariants as P
use Rattle.fmi_calls.specs.Permission.{Permitted}
use Rattle.fmu_peer.specs.declared.peer.Exchange.{Exchange}
use Rattle.fmu_peer.specs.declared.ended.Why.{Why}
use Rattle.fmu_peer.specs.declared.slot.Slot.{Slot}
use Rattle.fmu_peer.specs.Answer.{Answered, AnsweredWith, Failed, FailedWith}
use Rattle.fmu_peer.specs.CloseAll.{Instance, instance_in, peer_in}
use Rattle.fmu_peer.specs.Machine.{Machine, MachineState, kept}
use Rattle.fmu_peer.specs.Talk.{AllGood, calls_in}
use Rattle.fmu_peer.specs.View.{View, without_machine}
use Rattle.slot_calls.specs.Log.{Has, One, StopsAfter}
use Rattle.slot_calls.specs.Slots.{LiveSlot, state_of}
use Rattle.slot_calls.specs.declared.bad_answer.BadAnswer.{BadAnswer}

-- ---- one call to the FMU in a slot

-- no value of an answer is asked for
abbrev pub no_value : Exchange → Unit {0}
no_value e = tt

-- the FMU is in Step Mode and may be sent the call, and the slot has the token of a saved state exactly where the phase has one
pub record MayBeSent {L : Type 0} {g : _} (view : L → View) (call : Call)
    (slot : Slot L g) : Type 0 where
  pub live : LiveSlot view slot
  pub stepping : state_of slot.held ≡ Some P.Step
  pub permitted : Permitted (view (peer_in slot.held)).fixed.shape (view (peer_in slot.held)).phase
      call

-- it was sent this call alone, and its slot is likewise after a good answer
pub record WasSent {L : Type 0} {g : _} (view : L → View) (call : Call) (old new : Slot L g)
    (result : Result (Unit {0}) Why) : Type 0 where
  pub one : One call no_value (instance_in view old) (instance_in view new) result
  pub live : OnOk result (LiveSlot view new)

-- ---- several calls to one instance

-- it was asked these calls, and answered each well
pub record AnswersEach (calls : List Call) (old new : Instance) : Type 0 where
  pub exchanges : List Exchange
  pub calls_are : calls_in exchanges ≡ calls
  pub has : Has old exchanges new
  pub good : AllGood old.view.fixed.shape exchanges

-- up to the first whose answer isn't good
abbrev pub AnswersUntil : {T : Type 0} → List Call → Instance → Instance → Result T Why → Type 0
AnswersUntil calls old new (Ok x) = AnswersEach calls old new
AnswersUntil calls old new (Err why) = StopsAfter calls why old new

-- ---- keeping

abbrev pub keeping_calls : List Call
keeping_calls = C.Save ∷ C.Serialize ∷ C.Free ∷ []

-- in Step Mode, with no state saved, of an FMU that can put its state as bytes
pub record MayBeKept (v : View) : Type 0 where
  pub state : v.phase.state ≡ P.Step
  pub saves : v.fixed.shape.can_save_state ≡ true
  pub serializes : v.fixed.shape.can_serialize_state ≡ true
  pub empty : v.phase.slot.is_full ≡ false

-- where a machine is told, the bytes are those of the state in its slot
abbrev pub IsPackedSlot : Option Machine → Option MachineState → List ℕ → Type 0
IsPackedSlot (Some m) (Some s) bytes = option_map m.packing.pack s.slot ≡ Some bytes
IsPackedSlot (Some m) None bytes = Unit {0}
IsPackedSlot None state bytes = Unit {0}

-- where a machine is told, the bytes are those of what its state keeps
abbrev pub IsPackedIn : Option Machine → Option MachineState → List ℕ → Type 0
IsPackedIn (Some m) (Some s) bytes = bytes ≡ m.packing.pack (kept s)
IsPackedIn (Some m) None bytes = Unit {0}
IsPackedIn None state bytes = Unit {0}

abbrev pub IsPackedOf : View → List ℕ → Type 0
IsPackedOf v bytes = IsPackedIn v.fixed.machine v.state bytes

-- ---- going back

-- the machine of an instance isn't told: so a Deserialize is a call like others, and its bytes are told beside it
abbrev pub without_machine_in : Instance → Instance
without_machine_in i = record i { view = without_machine i.view }

abbrev pub without_machines : List Instance → List Instance
without_machines instances = map without_machine_in instances

abbrev pub restoring_calls : (size point stop : ℕ) → List Call
restoring_calls size point stop = C.Deserialize size point stop ∷ C.Restore ∷ C.Free ∷ []

-- made, with nothing else sent, of an FMU that can take in its state
pub record MayBeRestored (v : View) : Type 0 where
  pub state : v.phase.state ≡ P.Instantiated
  pub saves : v.fixed.shape.can_save_state ≡ true
  pub serializes : v.fixed.shape.can_serialize_state ≡ true
  pub empty : v.phase.slot.is_full ≡ false

-- its answer to the Deserialize of these bytes is good, or that is why it isn't
abbrev pub AnswersWith : View → Call → List ℕ → View → Result (Unit {0}) Why → Type 0
AnswersWith old call bytes new (Ok x) = (reply : Reply) × AnsweredWith old call bytes reply new
AnswersWith old call bytes new (Err why) = FailedWith old call bytes why new

-- the FMU in a slot was sent it alone
pub record WasSentBytes {L : Type 0} {g : _} (view : L → View) (point stop : ℕ) (bytes : List ℕ)
    (old new : Slot L g) (result : Result (Unit {0}) Why) : Type 0 where
  pub one : One (C.Deserialize (length bytes) point stop) no_value
      (without_machine_in (instance_in view old)) (without_machine_in (instance_in view new)) result
  pub live : OnOk result (LiveSlot view new)
  pub answer : AnswersWith (view (peer_in old.held)) (C.Deserialize (length bytes) point stop) bytes
      (view (peer_in new.held)) result

-- good answers to the Deserialize of these bytes, to Restore and to Free
pub record WasRestored (point stop : ℕ) (bytes : List ℕ) (old new : View) : Type 0 where
  pub taken : View
  pub back : View
  pub in_reply : Reply
  pub back_reply : Reply
  pub free_reply : Reply
  pub deserialized : AnsweredWith old (C.Deserialize (length bytes) point stop) bytes in_reply taken
  pub restored : Answered taken C.Restore back_reply back
  pub freed : Answered back C.Free free_reply new

-- one of the three isn't good
pub data WasNotRestored (point stop : ℕ) (bytes : List ℕ) (why : Why) (old new : View) : Type 0 where
  Untaken : FailedWith old (C.Deserialize (length bytes) point stop) bytes why new →
      WasNotRestored point stop bytes why old new
  Unrestored : (taken : View) (in_reply : Reply) →
      AnsweredWith old (C.Deserialize (length bytes) point stop) bytes in_reply taken →
      Failed taken C.Restore why new → WasNotRestored point stop bytes why old new
  Unfreed : (taken back : View) (in_reply back_reply : Reply) →
      AnsweredWith old (C.Deserialize (length bytes) point stop) bytes in_reply taken →
      Answered taken C.Restore back_reply back → Failed back C.Free why new →
      WasNotRestored point stop bytes why old new

abbrev pub Restores : {T : Type 0} → (point stop : ℕ) → List ℕ → View → View → Result T Why → Type 0
Restores point stop bytes old new (Ok x) = WasRestored point stop bytes old new
Restores point stop bytes old new (Err why) = WasNotRestored point stop bytes why old new

-- ---- several instances

-- each was led back to its state
pub record AreRestored (point stop : ℕ) (states : List (List ℕ)) (olds news : List Instance) : Type 0 where
  pub len : length news ≡ length olds
  pub each : (i : ℕ) (d : Instance) → i < length olds →
      WasRestored point stop (slice_index_or states i []) (slice_index_or olds i d).view
      (slice_index_or news i d).view

-- those before the first bad answer were
pub record AreRestoredUntil (point stop : ℕ) (states : List (List ℕ)) (bad : BadAnswer)
    (olds news : List Instance) : Type 0 where
  pub len : length news ≡ length olds
  pub within : bad.component.0 < length olds
  pub prefix : (i : ℕ) (d : Instance) → i < bad.component.0 →
      WasRestored point stop (slice_index_or states i []) (slice_index_or olds i d).view
      (slice_index_or news i d).view
  pub there : (d : Instance) →
      WasNotRestored point stop (slice_index_or states bad.component.0 []) bad.why
      (slice_index_or olds bad.component.0 d).view (slice_index_or news bad.component.0 d).view

abbrev pub RestoresEach : {T : Type 0} → (point stop : ℕ) → List (List ℕ) →
    (olds news : List Instance) → Result T BadAnswer → Type 0
RestoresEach point stop states olds news (Ok x) = AreRestored point stop states olds news
RestoresEach point stop states olds news (Err bad) =
    AreRestoredUntil point stop states bad olds news
