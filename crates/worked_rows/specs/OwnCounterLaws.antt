-- The counter of the tests' own meets the laws of a peer.
use Rattle.std.proofs.Common.{◌≡◌, ◌∙◌, ℤ, true, List, Option, Some, None, Result, Ok, Err, ap, refl, sym}
use Rattle.std.specs.Prelude.{unwrap_or}
use Rattle.value_types.specs.declared.shape.Shape.{Shape}
use Rattle.fmi_calls.specs.declared.call.Call.{Call}
use Rattle.fmi_calls.specs.declared.call.Call.TheVariants as C
use Rattle.fmi_calls.specs.declared.call.Reply.{Reply}
use Rattle.fmi_calls.specs.declared.phase.Phase.{Phase}
use Rattle.fmu_peer.specs.declared.peer.PeerFault.{PeerFault}
use Rattle.fmu_peer.specs.Machine.{IgnoresSlot, IsInPhase, IsLawful, IsMachineOf, Machine, MachineState, UnpacksWell, after, changes_mode, is_discard}
use Rattle.fmu_peer.specs.View.{AnswersAs, TellsItsPhase}
use Rattle.bench_fmus.specs.BuiltIn.{machine_of}
use Rattle.bench_fmus.specs.Laws.{answers_alike, is_lawful, is_machine, unpacks_well}
use Rattle.bench_fmus.specs.Models.{behaviour_of}
use Rattle.worked_rows.specs.declared.own_counter.OwnCounter.{OwnCounter}
use Rattle.worked_rows.specs.OwnCounter.{own_answer, own_look, own_machine, own_view}

-- ---- what it answers by itself

-- neither EnterInitialization nor ExitInitialization
no_mode : (numbers : List ℤ) (call : Call) → changes_mode call ≡ true →
    own_answer numbers call ≡ None
no_mode numbers (C.EnterInitialization start stop) changes = refl
no_mode numbers C.ExitInitialization changes = refl
no_mode numbers (C.Instantiate event_mode early_return batches) changes = refl
no_mode numbers C.EnterEvent changes = refl
no_mode numbers C.EnterStep changes = refl
no_mode numbers (C.DoStep at size) changes = refl
no_mode numbers C.Update changes = refl
no_mode numbers (C.Get kind reference) changes = absurd (cc)
no_mode numbers (C.Set kind reference value) changes = refl
no_mode numbers (C.GetClock reference) changes = refl
no_mode numbers (C.SetClock reference) changes = refl
no_mode numbers (C.GetInterval reference) changes = refl
no_mode numbers (C.GetShift reference) changes = refl
no_mode numbers C.Save changes = refl
no_mode numbers C.Restore changes = refl
no_mode numbers C.Free changes = refl
no_mode numbers C.Terminate changes = refl
no_mode numbers C.FreeInstance changes = refl
no_mode numbers C.Serialize changes = refl
no_mode numbers (C.Deserialize length point stop) changes = refl

-- a call that leaves the state
pub unmoved : (m : Machine) (s : MachineState) (call : Call) (reply : Reply) →
    own_answer s.numbers call ≡ Some reply → after m s call ≡ s
unmoved m s (C.Get kind reference) reply is = refl
unmoved m s (C.EnterInitialization start stop) reply is = absurd (cc)
unmoved m s C.ExitInitialization reply is = absurd (cc)
unmoved m s (C.Instantiate event_mode early_return batches) reply is = absurd (cc)
unmoved m s C.EnterEvent reply is = absurd (cc)
unmoved m s C.EnterStep reply is = absurd (cc)
unmoved m s (C.DoStep at size) reply is = absurd (cc)
unmoved m s C.Update reply is = absurd (cc)
unmoved m s (C.Set kind reference value) reply is = absurd (cc)
unmoved m s (C.GetClock reference) reply is = absurd (cc)
unmoved m s (C.SetClock reference) reply is = absurd (cc)
unmoved m s (C.GetInterval reference) reply is = absurd (cc)
unmoved m s (C.GetShift reference) reply is = absurd (cc)
unmoved m s C.Save reply is = absurd (cc)
unmoved m s C.Restore reply is = absurd (cc)
unmoved m s C.Free reply is = absurd (cc)
unmoved m s C.Terminate reply is = absurd (cc)
unmoved m s C.FreeInstance reply is = absurd (cc)
unmoved m s C.Serialize reply is = absurd (cc)
unmoved m s (C.Deserialize length point stop) reply is = absurd (cc)

-- its states are those of the other machine
after_same : (m : Machine) (s : MachineState) (call : Call) →
    after (own_machine m) s call ≡ after m s call
after_same m s (C.Get kind reference) = refl
after_same m s (C.EnterInitialization start stop) = refl
after_same m s C.ExitInitialization = refl
after_same m s (C.Instantiate event_mode early_return batches) = refl
after_same m s C.EnterEvent = refl
after_same m s C.EnterStep = refl
after_same m s (C.DoStep at size) = refl
after_same m s C.Update = refl
after_same m s (C.Set kind reference value) = refl
after_same m s (C.GetClock reference) = refl
after_same m s (C.SetClock reference) = refl
after_same m s (C.GetInterval reference) = refl
after_same m s (C.GetShift reference) = refl
after_same m s C.Save = refl
after_same m s C.Restore = refl
after_same m s C.Free = refl
after_same m s C.Terminate = refl
after_same m s C.FreeInstance = refl
after_same m s C.Serialize = refl
after_same m s (C.Deserialize length point stop) = refl

-- ---- the laws, of any machine

pub machine_is : (shape : Shape) (m : Machine) → IsMachineOf shape m →
    IsMachineOf shape (own_machine m)
machine_is shape m is = record {
  references = is.references;
  clocks = is.clocks;
  values = is.values;
  empty = is.empty;
  before = is.before;
  enters = is.enters;
  exits = is.exits;
  keeps = is.keeps;
  undiscarded =
      λ s call changes. ap (λ (o : Option Reply). is_discard (unwrap_or o (m.look s call)))
      (no_mode s.numbers call changes) ∙ is.undiscarded s call changes;
}

machine_alike : (m : Machine) → IgnoresSlot m → IgnoresSlot (own_machine m)
machine_alike m alike = record {
  looks =
      λ call s slot other. ap (unwrap_or (own_answer s.numbers call))
      (alike.looks call s slot other);
  changes = alike.changes;
}

machine_unpacks : (m : Machine) → UnpacksWell m → UnpacksWell (own_machine m)
machine_unpacks m well = record { outside = well.outside; fills = well.fills }

machine_lawful : (shape : Shape) (m : Machine) → IsLawful shape m → IsLawful shape (own_machine m)
machine_lawful shape m lawful = λ call output s xs ys looked found mode agree.
    ap (unwrap_or (own_answer s.numbers call)) (lawful call output s xs ys looked found mode agree)

pub machine_in_phase : (m : Machine) (phase : Phase) (s : MachineState) → IsInPhase m phase s →
    IsInPhase (own_machine m) phase s
machine_in_phase m phase s is = record { mode = is.mode; saved = is.saved }

pub base_in_phase : (m : Machine) (phase : Phase) (s : MachineState) →
    IsInPhase (own_machine m) phase s → IsInPhase m phase s
base_in_phase m phase s is = record { mode = is.mode; saved = is.saved }

-- what it answers by itself is its look
pub own_looks : (m : Machine) (s : MachineState) (call : Call) (reply : Reply) →
    own_answer s.numbers call ≡ Some reply → reply ≡ own_look m s call
own_looks m s call reply is = sym (ap (λ (o : Option Reply). unwrap_or o (m.look s call)) is)

-- and so is what the other machine answers in its place
pub answers_own : (m : Machine) (s : MachineState) (call : Call) (result : Result Reply PeerFault)
    (new : Option MachineState) →
    own_answer s.numbers call ≡ None → AnswersAs (Some m) (Some s) call result new →
    AnswersAs (Some (own_machine m)) (Some s) call result new
answers_own m s call (Ok reply) new none (reply_is, new_is) = (
  reply_is ∙ sym (ap (λ (o : Option Reply). unwrap_or o (m.look s call)) none),
  new_is ∙
      sym (ap (λ (t : MachineState). Some t) (after_same m s call)),
)
answers_own m s call (Err fault) new none is = is

-- ---- the laws of the peer

abbrev pub base : OwnCounter → Machine
base p = machine_of (behaviour_of p.inner.model) p.inner.book.shape

pub own_is : (p : OwnCounter) → IsMachineOf p.inner.book.shape (own_machine (base p))
own_is p = machine_is p.inner.book.shape (base p) (is_machine p.inner.model p.inner.book.shape)

pub own_alike : (p : OwnCounter) → IgnoresSlot (own_machine (base p))
own_alike p = machine_alike (base p) (answers_alike p.inner.model p.inner.book.shape)

pub own_unpacks : (p : OwnCounter) → UnpacksWell (own_machine (base p))
own_unpacks p = machine_unpacks (base p) (unpacks_well p.inner.model p.inner.book.shape)

pub own_lawful : (p : OwnCounter) → IsLawful p.inner.book.shape (own_machine (base p))
own_lawful p =
    machine_lawful p.inner.book.shape (base p) (is_lawful p.inner.model p.inner.book.shape)

pub own_in_phase : (p : OwnCounter) → TellsItsPhase (own_view p)
own_in_phase p = machine_in_phase (base p) p.inner.book.phase _ p.inner.in_phase
