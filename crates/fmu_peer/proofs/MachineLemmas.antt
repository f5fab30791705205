-- A machine's state stays one of an instance in its phase.
use Rattle.std.proofs.Common.{◌≡◌, ℕ, Bool, List, true, false, Option, Some, None, refl, sym, ap, ◌∙◌, subst}
use Rattle.std.specs.Prelude.{if◌then◌else◌}
use Rattle.std.proofs.lemmas.Option.{same_Some}
use Rattle.value_types.specs.declared.shape.Shape.{Shape}
use Rattle.fmi_calls.specs.declared.call.BadStatus.{BadStatus}
use Rattle.fmi_calls.specs.declared.call.BadStatus.TheVariants.{Discard, Error, Fatal}
use Rattle.fmi_calls.specs.declared.call.Call.{Call}
use Rattle.fmi_calls.specs.declared.call.Call.TheVariants as C
use Rattle.fmi_calls.specs.declared.call.Grade.{Grade}
use Rattle.fmi_calls.specs.declared.call.Grade.TheVariants as G
use Rattle.fmi_calls.specs.declared.call.Reply.{Reply}
use Rattle.fmi_calls.specs.declared.call.Reply.TheVariants as R
use Rattle.fmi_calls.specs.declared.phase.InstanceState.{InstanceState}
use Rattle.fmi_calls.specs.declared.phase.InstanceState.TheVariants as P
use Rattle.fmi_calls.specs.declared.phase.Phase.{Phase}
use Rattle.fmi_calls.specs.Kinds.{bad_status_of}
use Rattle.fmi_calls.specs.Next.{counted, entered, fresh, graded, next_of, restored_state, state_after_bad}
use Rattle.fmi_calls.specs.Permission.{Permitted, can_go_back, is_running}
use Rattle.fmi_calls.specs.Worth.{grade_of}
use Rattle.fmu_peer.specs.Machine.{IsInPhase, IsMachineOf, Machine, MachineState, SavedMachine, after, is_alive, is_discard, is_initialization, kept, put_back, taken_in, UnpacksWell}
use Rattle.fmu_peer.specs.View.{IsDeserialize}

-- ---- where the instance stands after a reply, if it is still alive

-- a bad answer leaves the state, or the instance isn't alive
bad_same : (state : InstanceState) (status : BadStatus) → is_alive (state_after_bad state C.Terminate status) ≡ true → state_after_bad state C.Terminate status ≡ state
bad_same state Discard alive = refl
bad_same state Error alive = absurd (cc)
bad_same state Fatal alive = absurd (cc)

-- after Initialization Mode the instance isn't in it
not_initial : (state : InstanceState) → is_running state ≡ true → is_initialization state ≡ false
not_initial P.Fresh at = refl
not_initial P.Instantiated at = refl
not_initial P.Initialization at = absurd (cc)
not_initial P.Event at = refl
not_initial P.Step at = refl
not_initial P.Terminated at = refl
not_initial P.Dead at = refl
not_initial P.Lost at = refl
not_initial P.Gone at = refl

running_alive : (state : InstanceState) → is_running state ≡ true → is_alive state ≡ true
running_alive P.Fresh at = refl
running_alive P.Instantiated at = refl
running_alive P.Initialization at = refl
running_alive P.Event at = refl
running_alive P.Step at = refl
running_alive P.Terminated at = refl
running_alive P.Dead at = absurd (cc)
running_alive P.Lost at = absurd (cc)
running_alive P.Gone at = absurd (cc)

running_not_initial : (has_event_mode : Bool) → is_initialization (if has_event_mode then P.Event else P.Step) ≡ false
running_not_initial true = refl
running_not_initial false = refl

module _ (shape : Shape) (p : Phase) (reply : Reply) where
  -- after a call that leaves the state where its answer is good
  stays : (call : Call) (g : Grade) → (entered shape p call reply).state ≡ p.state
      → ((status : BadStatus) → is_alive (state_after_bad p.state call status) ≡ true → state_after_bad p.state call status ≡ p.state)
      → is_alive (graded shape p call reply g).state ≡ true → (graded shape p call reply g).state ≡ p.state
  stays call G.Good good bad alive = good
  stays call G.Refused good bad alive = bad (bad_status_of reply) alive
  stays call G.Misreply good bad alive = bad Error alive

  instantiated : (event_mode early_return batches : Bool) (g : Grade) → is_alive (graded shape p (C.Instantiate event_mode early_return batches) reply g).state ≡ true
      → (graded shape p (C.Instantiate event_mode early_return batches) reply g).state ≡ P.Instantiated
  instantiated event_mode early_return batches G.Good alive = refl
  instantiated event_mode early_return batches G.Refused alive = absurd (never (bad_status_of reply) alive)
    where
      never : (status : BadStatus) → is_alive (state_after_bad p.state (C.Instantiate event_mode early_return batches) status) ≡ true → ⊥
      never Discard e = cc
      never Error e = cc
      never Fatal e = cc
  instantiated event_mode early_return batches G.Misreply alive = absurd (cc)

  terminated : (g : Grade) → is_running p.state ≡ true → is_alive (graded shape p C.Terminate reply g).state ≡ true → is_initialization (graded shape p C.Terminate reply g).state ≡ false
  terminated G.Good at alive = refl
  terminated G.Refused at alive = ap is_initialization (bad_same p.state (bad_status_of reply) alive) ∙ not_initial p.state at
  terminated G.Misreply at alive = absurd (cc)

-- a change of mode that isn't discarded is made, or the instance isn't alive
undiscarded : (state : InstanceState) (reply : Reply) → is_discard reply ≡ false → is_alive (state_after_bad state C.Terminate (bad_status_of reply)) ≡ true → ⊥
undiscarded state (R.Done is_warning content) other alive = cc
undiscarded state (R.Refused kind Discard) other alive = cc
undiscarded state (R.Refused kind Error) other alive = cc
undiscarded state (R.Refused kind Fatal) other alive = cc

entered_mode : (shape : Shape) (p : Phase) (reply : Reply) (start stop : ℕ) (g : Grade) → is_discard reply ≡ false → is_alive (graded shape p (C.EnterInitialization start stop) reply g).state ≡ true
    → (graded shape p (C.EnterInitialization start stop) reply g).state ≡ P.Initialization
entered_mode shape p reply start stop G.Good other alive = refl
entered_mode shape p reply start stop G.Refused other alive = absurd (undiscarded p.state reply other alive)
entered_mode shape p reply start stop G.Misreply other alive = absurd (cc)

left_mode : (shape : Shape) (p : Phase) (reply : Reply) (g : Grade) → is_discard reply ≡ false → is_alive (graded shape p C.ExitInitialization reply g).state ≡ true
    → is_initialization (graded shape p C.ExitInitialization reply g).state ≡ false
left_mode shape p reply G.Good other alive = running_not_initial shape.has_event_mode
left_mode shape p reply G.Refused other alive = absurd (undiscarded p.state reply other alive)
left_mode shape p reply G.Misreply other alive = absurd (cc)

-- a change between Event Mode and Step Mode leads to neither of the others
switched : (shape : Shape) (p : Phase) (reply : Reply) (call : Call) (g : Grade) → is_initialization (entered shape p call reply).state ≡ false
    → ((status : BadStatus) → is_alive (state_after_bad p.state call status) ≡ true → state_after_bad p.state call status ≡ p.state) → is_initialization p.state ≡ false
    → is_alive (graded shape p call reply g).state ≡ true → is_initialization (graded shape p call reply g).state ≡ false
switched shape p reply call G.Good good bad old alive = good
switched shape p reply call G.Refused good bad old alive = ap is_initialization (bad (bad_status_of reply) alive) ∙ old
switched shape p reply call G.Misreply good bad old alive = ap is_initialization (bad Error alive) ∙ old

-- where a state may be gone back to
back_not_initial : (state : InstanceState) → can_go_back state ≡ true → is_initialization state ≡ false
back_not_initial P.Fresh at = absurd (cc)
back_not_initial P.Instantiated at = refl
back_not_initial P.Initialization at = absurd (cc)
back_not_initial P.Event at = absurd (cc)
back_not_initial P.Step at = refl
back_not_initial P.Terminated at = absurd (cc)
back_not_initial P.Dead at = absurd (cc)
back_not_initial P.Lost at = absurd (cc)
back_not_initial P.Gone at = absurd (cc)

back_alive : (state : InstanceState) → can_go_back state ≡ true → is_alive state ≡ true
back_alive P.Fresh at = absurd (cc)
back_alive P.Instantiated at = refl
back_alive P.Initialization at = absurd (cc)
back_alive P.Event at = absurd (cc)
back_alive P.Step at = refl
back_alive P.Terminated at = absurd (cc)
back_alive P.Dead at = absurd (cc)
back_alive P.Lost at = absurd (cc)
back_alive P.Gone at = absurd (cc)

restored_not_initial : (state : InstanceState) → can_go_back state ≡ true → is_initialization (restored_state state) ≡ false
restored_not_initial P.Fresh at = absurd (cc)
restored_not_initial P.Instantiated at = refl
restored_not_initial P.Initialization at = absurd (cc)
restored_not_initial P.Event at = absurd (cc)
restored_not_initial P.Step at = refl
restored_not_initial P.Terminated at = absurd (cc)
restored_not_initial P.Dead at = absurd (cc)
restored_not_initial P.Lost at = absurd (cc)
restored_not_initial P.Gone at = absurd (cc)

-- ---- the machine's state

-- what is saved isn't in Initialization Mode
abbrev SavedWell : Machine → Option SavedMachine → Type 0
SavedWell m slot = (kept : SavedMachine) → slot ≡ Some kept → m.initializing kept.numbers ≡ false

none_saved : (m : Machine) (slot : Option SavedMachine) → slot ≡ None → SavedWell m slot
none_saved m slot none = λ kept some. absurd (cc)

one_saved : (m : Machine) (s : MachineState) → m.initializing s.numbers ≡ false → SavedWell m (Some (kept s))
one_saved m s mode = λ saved some. subst (λ (x : SavedMachine). m.initializing x.numbers ≡ false) (same_Some (kept s) saved some) mode

-- it was alive before
was_alive : (old new : InstanceState) → new ≡ old → is_alive new ≡ true → is_alive old ≡ true
was_alive old new same alive = ap is_alive (sym same) ∙ alive

-- the state of the instance is that of before
in_same : (m : Machine) (phase new : Phase) (s t : MachineState) → IsInPhase m phase s → (is_alive new.state ≡ true → new.state ≡ phase.state)
    → m.initializing t.numbers ≡ m.initializing s.numbers → (is_alive phase.state ≡ true → SavedWell m t.slot) → IsInPhase m new t
in_same m phase new s t old same mode saved = record {
  mode = λ alive. mode ∙ old.mode (was_alive phase.state new.state (same alive) alive) ∙ ap is_initialization (sym (same alive));
  saved = λ alive. saved (was_alive phase.state new.state (same alive) alive);
}

-- the instance is in this state
in_state : (m : Machine) (new : Phase) (t : MachineState) (b : Bool) → (is_alive new.state ≡ true → is_initialization new.state ≡ b) → m.initializing t.numbers ≡ b → SavedWell m t.slot → IsInPhase m new t
in_state m new t b is mode saved = record { mode = λ alive. mode ∙ sym (is alive); saved = λ alive. saved }

-- the instance isn't alive
in_none : (m : Machine) (new : Phase) (t : MachineState) → (is_alive new.state ≡ true → ⊥) → IsInPhase m new t
in_none m new t dead = record { mode = λ alive. absurd (dead alive); saved = λ alive. absurd (dead alive) }

saved_at : (m : Machine) (phase : Phase) (s : MachineState) (state : InstanceState) → IsInPhase m phase s → phase.state ≡ state → is_alive state ≡ true → SavedWell m s.slot
saved_at m phase s state old at alive = old.saved (ap is_alive at ∙ alive)

mode_at : (m : Machine) (phase : Phase) (s : MachineState) (state : InstanceState) → IsInPhase m phase s → phase.state ≡ state → is_alive state ≡ true → m.initializing s.numbers ≡ is_initialization state
mode_at m phase s state old at alive = old.mode (ap is_alive at ∙ alive) ∙ ap is_initialization at

back_mode : (m : Machine) (slot : Option SavedMachine) (s : MachineState) → SavedWell m slot → m.initializing s.numbers ≡ false → m.initializing (put_back slot s).numbers ≡ false
back_mode m None s saved mode = mode
back_mode m (Some saved) s well mode = well saved refl

back_slot : (slot : Option SavedMachine) (s : MachineState) → (put_back slot s).slot ≡ s.slot
back_slot None s = refl
back_slot (Some saved) s = refl

-- ---- the law

pub in_phase_first : (shape : Shape) (m : Machine) → IsMachineOf shape m → IsInPhase m (fresh shape) m.first
in_phase_first shape m is = record { mode = λ alive. is.before; saved = λ alive. none_saved m m.first.slot is.empty }

-- after a fault the instance is lost
pub in_phase_lost : (shape : Shape) (m : Machine) (phase : Phase) (call : Call) (s : MachineState) → IsInPhase m (next_of shape phase call None) s
in_phase_lost shape m phase call s = in_none m (next_of shape phase call None) s (λ alive. cc)

module _ (shape : Shape) (m : Machine) (is : IsMachineOf shape m) (phase : Phase) (s : MachineState) (old : IsInPhase m phase s) where
  -- the phase after a call
  abbrev new : Call → Phase
  new call = graded shape (counted phase call) call (m.look s call) (grade_of shape call (m.look s call))

  -- after a call that leaves the state of the instance
  abbrev Leaves : Call → Type 0
  Leaves call = is_alive (new call).state ≡ true → (new call).state ≡ phase.state

  leaves : (call : Call) → (entered shape (counted phase call) call (m.look s call)).state ≡ phase.state
      → ((status : BadStatus) → is_alive (state_after_bad phase.state call status) ≡ true → state_after_bad phase.state call status ≡ phase.state) → Leaves call
  leaves call good bad = stays shape (counted phase call) (m.look s call) call (grade_of shape call (m.look s call)) good bad

  pub in_phase_after : (call : Call) → Permitted shape phase call → IsInPhase m (next_of shape phase call (Some (m.look s call))) (after m s call)
  in_phase_after (C.Get kind reference) may = in_same m phase (new (C.Get kind reference)) s s old (leaves (C.Get kind reference) refl (bad_same phase.state)) refl old.saved
  in_phase_after (C.Set kind reference value) may =
      in_same m phase (new (C.Set kind reference value)) s (after m s (C.Set kind reference value)) old (leaves (C.Set kind reference value) refl (bad_same phase.state)) refl old.saved
  in_phase_after (C.DoStep at size) may =
      in_same m phase (new (C.DoStep at size)) s (after m s (C.DoStep at size)) old (leaves (C.DoStep at size) refl (bad_same phase.state)) (is.keeps s (C.DoStep at size) refl) old.saved
  in_phase_after C.Save may =
      in_same m phase (new C.Save) s (after m s C.Save) old (leaves C.Save refl (bad_same phase.state)) refl (λ alive. one_saved m s (mode_at m phase s P.Step old may.0 refl))
  in_phase_after C.Restore may =
      let out : is_initialization phase.state ≡ false = back_not_initial phase.state may.0 in
      let alive : is_alive phase.state ≡ true = back_alive phase.state may.0 in
      let mode : m.initializing s.numbers ≡ false = old.mode alive ∙ out in
      in_state m (new C.Restore) (after m s C.Restore) false
      (switched shape (counted phase C.Restore) (m.look s C.Restore) C.Restore (grade_of shape C.Restore (m.look s C.Restore)) (restored_not_initial phase.state may.0) (bad_same phase.state) out)
      (back_mode m s.slot s (old.saved alive) mode) (subst (SavedWell m) (sym (back_slot s.slot s)) (old.saved alive))
  in_phase_after C.Serialize may = in_same m phase (new C.Serialize) s s old (leaves C.Serialize refl (bad_same phase.state)) refl old.saved
  in_phase_after (C.Deserialize length point stop) may = in_same m phase (new (C.Deserialize length point stop)) s s old (leaves (C.Deserialize length point stop) refl (bad_same phase.state)) refl old.saved
  in_phase_after C.Free may = in_same m phase (new C.Free) s (after m s C.Free) old (leaves C.Free refl (bad_same phase.state)) refl (λ alive. none_saved m None refl)
  in_phase_after (C.Instantiate event_mode early_return batches) may =
      in_state m (new (C.Instantiate event_mode early_return batches)) (after m s (C.Instantiate event_mode early_return batches)) false
      (λ alive. ap is_initialization (instantiated shape (counted phase (C.Instantiate event_mode early_return batches)) (m.look s (C.Instantiate event_mode early_return batches)) event_mode early_return batches (grade_of shape (C.Instantiate event_mode early_return batches) (m.look s (C.Instantiate event_mode early_return batches))) alive))
      (is.keeps s (C.Instantiate event_mode early_return batches) refl ∙ mode_at m phase s P.Fresh old may.0 refl) (saved_at m phase s P.Fresh old may.0 refl)
  in_phase_after (C.EnterInitialization start stop) may =
      in_state m (new (C.EnterInitialization start stop)) (after m s (C.EnterInitialization start stop)) true
      (λ alive. ap is_initialization (entered_mode shape (counted phase (C.EnterInitialization start stop)) (m.look s (C.EnterInitialization start stop)) start stop (grade_of shape (C.EnterInitialization start stop) (m.look s (C.EnterInitialization start stop))) (is.undiscarded s (C.EnterInitialization start stop) refl) alive))
      (is.enters s start stop) (saved_at m phase s P.Instantiated old may.0 refl)
  in_phase_after C.ExitInitialization may =
      in_state m (new C.ExitInitialization) (after m s C.ExitInitialization) false
      (λ alive. left_mode shape (counted phase C.ExitInitialization) (m.look s C.ExitInitialization) (grade_of shape C.ExitInitialization (m.look s C.ExitInitialization)) (is.undiscarded s C.ExitInitialization refl) alive)
      (is.exits s) (saved_at m phase s P.Initialization old may refl)
  in_phase_after C.Terminate may =
      in_state m (new C.Terminate) (after m s C.Terminate) false
      (terminated shape (counted phase C.Terminate) (m.look s C.Terminate) (grade_of shape C.Terminate (m.look s C.Terminate)) may.0)
      (is.keeps s C.Terminate refl ∙ old.mode (running_alive phase.state may.0) ∙ not_initial phase.state may.0) (old.saved (running_alive phase.state may.0))
  in_phase_after C.FreeInstance may = in_none m (new C.FreeInstance) (after m s C.FreeInstance) (gone (grade_of shape C.FreeInstance (m.look s C.FreeInstance)))
    where
      gone : (g : Grade) → is_alive (graded shape (counted phase C.FreeInstance) C.FreeInstance (m.look s C.FreeInstance) g).state ≡ true → ⊥
      gone G.Good alive = cc
      gone G.Refused alive = cc
      gone G.Misreply alive = cc
  in_phase_after C.EnterEvent may =
      in_state m (new C.EnterEvent) (after m s C.EnterEvent) false
      (switched shape (counted phase C.EnterEvent) (m.look s C.EnterEvent) C.EnterEvent (grade_of shape C.EnterEvent (m.look s C.EnterEvent)) refl (bad_same phase.state) (ap is_initialization may.0))
      (is.keeps s C.EnterEvent refl ∙ mode_at m phase s P.Step old may.0 refl) (saved_at m phase s P.Step old may.0 refl)
  in_phase_after C.EnterStep may =
      in_state m (new C.EnterStep) (after m s C.EnterStep) false
      (switched shape (counted phase C.EnterStep) (m.look s C.EnterStep) C.EnterStep (grade_of shape C.EnterStep (m.look s C.EnterStep)) refl (bad_same phase.state) (ap is_initialization may.0))
      (is.keeps s C.EnterStep refl ∙ mode_at m phase s P.Event old may.0 refl) (saved_at m phase s P.Event old may.0 refl)
  in_phase_after C.Update may =
      in_same m phase (new C.Update) s (after m s C.Update) old (leaves C.Update refl (bad_same phase.state)) (is.keeps s C.Update refl) old.saved
  in_phase_after (C.GetClock reference) may = in_same m phase (new (C.GetClock reference)) s (after m s (C.GetClock reference)) old (leaves (C.GetClock reference) refl (bad_same phase.state)) refl old.saved
  in_phase_after (C.SetClock reference) may = in_same m phase (new (C.SetClock reference)) s (after m s (C.SetClock reference)) old (leaves (C.SetClock reference) refl (bad_same phase.state)) refl old.saved
  in_phase_after (C.GetInterval reference) may = in_same m phase (new (C.GetInterval reference)) s (after m s (C.GetInterval reference)) old (leaves (C.GetInterval reference) refl (bad_same phase.state)) refl old.saved
  in_phase_after (C.GetShift reference) may = in_same m phase (new (C.GetShift reference)) s (after m s (C.GetShift reference)) old (leaves (C.GetShift reference) refl (bad_same phase.state)) refl old.saved

  -- what a Deserialize takes in isn't in Initialization Mode
  pub in_phase_taken_in : UnpacksWell m → (call : Call) (count : ℕ) (bytes : List ℕ) (reply : Reply) → IsDeserialize call count → Permitted shape phase call → IsInPhase m (next_of shape phase call (Some reply)) (taken_in m s bytes)
  in_phase_taken_in unpacks (C.Deserialize length point stop) count bytes reply is may =
      let call = C.Deserialize length point stop in
      in_same m phase (graded shape (counted phase call) call reply (grade_of shape call reply)) s (taken_in m s bytes) old
      (stays shape (counted phase call) reply call (grade_of shape call reply) refl (bad_same phase.state)) refl (λ alive. unpacks.outside bytes)
  in_phase_taken_in unpacks call count bytes reply is may = absurd is
