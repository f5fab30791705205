-- The slots of a run: in which typed state each FMU is held (FMI 3.0, 4.2.1), and what one call makes of it.
use Rattle.std.specs.Prelude.{◌≡◌, Bool, true, false, List, [], ◌∷◌, map, Option, Some, None, Ok, Err, Result, OnOk, ⊤, is_some}
use Rattle.value_types.specs.declared.shape.Shape.{Shape}
use Rattle.fmi_calls.specs.declared.call.Call.{Call}
use Rattle.fmi_calls.specs.declared.call.Call.TheVariants as C
use Rattle.fmi_calls.specs.Permission.{Permitted}
use Rattle.fmi_calls.specs.declared.phase.InstanceState.{InstanceState}
use Rattle.fmi_calls.specs.declared.phase.InstanceState.TheVariants as P
use Rattle.fmu_peer.specs.declared.peer.Exchange.{Exchange}
use Rattle.fmu_peer.specs.declared.slot.Held.{Held}
use Rattle.fmu_peer.specs.declared.slot.Held.TheVariants.{Fresh, Instantiated, Initializing, Eventing, Stepping, Ended, Closed}
use Rattle.fmu_peer.specs.declared.slot.Slot.{Slot}
use Rattle.fmu_peer.specs.declared.ended.Why.{Why}
use Rattle.fmu_peer.specs.declared.ended.Why.TheVariants as W
use Rattle.fmu_peer.specs.Close.{is_fatal_status}
use Rattle.fmu_peer.specs.CloseAll.{Instance, instance_in, peer_in}
use Rattle.fmu_peer.specs.Mode.{instantiate_of}
use Rattle.fmu_peer.specs.View.{View}
use Rattle.slot_calls.specs.Log.{Talks, Worth}
use Rattle.slot_calls.specs.SavedStates.{saved_by}
use Rattle.slot_calls.specs.Stage.{everyone, has_events}
use Rattle.slot_calls.specs.declared.ask.Ask.{Ask}
use Rattle.slot_calls.specs.declared.ask.Ask.TheVariants as A

abbrev pub instances : {L : Type 0} {g : _} → (L → View) → List (Slot L g) → List Instance
instances view slots = map (λ s. instance_in view s) slots

-- ---- held in the state of its phase

-- the state that a typed FMU stands for
abbrev pub state_of : {L : Type 0} {g : _} → Held L g → Option InstanceState
state_of (Fresh fmu) = Some P.Fresh
state_of (Instantiated fmu) = Some P.Instantiated
state_of (Initializing fmu) = Some P.Initialization
state_of (Eventing fmu) = Some P.Event
state_of (Stepping fmu) = Some P.Step
state_of (Ended ended) = None
state_of (Closed peer) = None

abbrev pub IsLive : {L : Type 0} {g : _} → (L → View) → Held L g → Type 0
IsLive view held = state_of held ≡ Some (view (peer_in held)).phase.state

-- likewise of a slot, which has the token of a saved state exactly where the phase has one
pub record LiveSlot {L : Type 0} {g : _} (view : L → View) (slot : Slot L g) : Type 0 where
  pub held : IsLive view slot.held
  pub token : is_some slot.saved ≡ (view (peer_in slot.held)).phase.slot.is_full

-- the slot's instance stands so
abbrev pub Stands : {L : Type 0} {g : _} → (View → Type 0) → (L → View) → Slot L g → Type 0
Stands P view slot = P (view (peer_in slot.held))

-- ---- one call

-- the call that an FMU of a shape is asked
abbrev pub call_of : Ask → Shape → Call
call_of (A.Instantiate link) shape = instantiate_of link shape
call_of (A.EnterInitialization start stop) shape = C.EnterInitialization start stop
call_of A.ExitInitialization shape = C.ExitInitialization
call_of A.EnterEvent shape = C.EnterEvent
call_of A.EnterStep shape = C.EnterStep
call_of (A.DoStep at size) shape = C.DoStep at size

-- which FMUs are asked, by their shapes: each, or each with event mode
abbrev pub is_asked : Ask → Shape → Bool
is_asked (A.Instantiate link) = everyone
is_asked (A.EnterInitialization start stop) = everyone
is_asked A.ExitInitialization = everyone
is_asked A.EnterEvent = has_events
is_asked A.EnterStep = has_events
is_asked (A.DoStep at size) = everyone

-- the FMU stays in Step Mode by the call
abbrev pub IsStay : Ask → Type 0
IsStay (A.DoStep at size) = ⊤
IsStay ask = ⊥

-- by the others it leaves its state, if the answer is good
abbrev pub IsTransition : Ask → Type 0
IsTransition (A.DoStep at size) = ⊥
IsTransition ask = ⊤

-- the call reads or sets a variable or a Clock
abbrev pub reads_or_sets : Call → Bool
reads_or_sets (C.Get kind reference) = true
reads_or_sets (C.Set kind reference value) = true
reads_or_sets (C.GetClock reference) = true
reads_or_sets (C.SetClock reference) = true
reads_or_sets (C.GetInterval reference) = true
reads_or_sets (C.GetShift reference) = true
reads_or_sets _ = false

-- such a call or an Update, which leaves the mode
abbrev pub keeps_mode : Call → Bool
keeps_mode C.Update = true
keeps_mode call = reads_or_sets call

-- the FMU may be asked so
abbrev pub MayBeAsked : Ask → View → Type 0
MayBeAsked ask v = Permitted v.fixed.shape v.phase (call_of ask v.fixed.shape)

-- where it is asked, it may be
abbrev pub MayTakePart : Ask → View → Type 0
MayTakePart ask v = is_asked ask v.fixed.shape ≡ true → MayBeAsked ask v

-- the peer was asked this call alone
pub record Called {T : Type 0} (call : Call) (value : Exchange → T) (old new : View)
    (result : Result T Why) : Type 0 where
  pub exchange : Exchange
  pub is : exchange.call ≡ call
  pub talks : Talks old (exchange ∷ []) new
  pub worth : Worth old.fixed.shape value exchange result

-- what is held was asked this call alone, and is held in the state of its phase where the answer is good
pub record Moves {L T : Type 0} {g : _} (view : L → View) (old : Held L g) (call : Call)
    (value : Exchange → T) (new : Held L g) (result : Result T Why) : Type 0 where
  pub called : Called call value (view (peer_in old)) (view (peer_in new)) result
  pub live : OnOk result (IsLive view new)

-- in Step Mode the FMU was asked this call alone, and is there after a good answer; its slot, which had or hadn't the token of a saved state, has it by the answer
pub record Stays {T : Type 0} (call : Call) (value : Exchange → T) (old new : View) (had has : Bool)
    (result : Result T Why) : Type 0 where
  pub called : Called call value old new result
  pub state : OnOk result (new.phase.state ≡ P.Step)
  pub token : has ≡ saved_by old.fixed.shape called.exchange.call called.exchange.result had

-- ---- Fatal

abbrev pub is_fatal_why : Why → Bool
is_fatal_why (W.Refused call status) = is_fatal_status status
is_fatal_why (W.Misreply call reply) = false
is_fatal_why (W.Link call fault) = false

-- a result is a refusal with Fatal
abbrev pub is_fatal_result : {T : Type 0} → Result T Why → Bool
is_fatal_result (Ok x) = false
is_fatal_result (Err why) = is_fatal_why why
