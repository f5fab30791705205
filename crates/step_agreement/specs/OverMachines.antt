-- The agreed step of told machines: the agreement of the run, and the states that it leaves.
use Rattle.std.specs.Prelude.{◌≡◌, ℕ, ◌<◌, Bool, true, false, List, [], ◌∷◌, All, Option, Some, None, Result, slice_get}
use Rattle.std.specs.List.{list_any}
use Rattle.fmi_calls.specs.declared.call.Call.{Call}
use Rattle.fmi_calls.specs.declared.call.Call.TheVariants as C
use Rattle.fmi_calls.specs.declared.call.Reply.{Reply}
use Rattle.fmu_peer.specs.declared.peer.Exchange.{Exchange}
use Rattle.fmu_peer.specs.declared.peer.PeerFault.{PeerFault}
use Rattle.fmu_peer.specs.Machine.{IgnoresSlot, Machine, MachineState, SavedMachine, after, kept}
use Rattle.system_model.specs.EarlyReturn.{early_count}
use Rattle.run_model.specs.Run.{Run, each}
use Rattle.run_model.specs.Steps.{Agree, Stepper, StopsShort}
use Rattle.run_model.specs.Stepping.{asked_first, ending, is_terminating, kept_at, step_to}
use Rattle.slot_calls.specs.Carried.{ends_by}
use Rattle.slot_calls.specs.Log.{Sent, part}
use Rattle.slot_calls.specs.Replies.{AreReplies, states_by}
use Rattle.slot_calls.specs.Stage.{shapes_of}
use Rattle.step_agreement.specs.Agreement.{Agrees, Fails, Meets, Outcome, Unfit}
use Rattle.step_agreement.specs.Ends.{Fmu, standing}

-- the FMUs at a step's beginning: where one ends is known by its machine, or by its shape
abbrev pub fmus_of : Run → List MachineState → ℕ → List Fmu
fmus_of r ss t = each r ss (λ i c m s. record { shape = c.shape; end = ending t c m s })

abbrev pub steppers_of : Run → List MachineState → ℕ → List Stepper
steppers_of r ss t =
    each r ss (λ i c m s.
    record { has_variable_steps = c.shape.has_variable_steps; end = ending t c m s })

-- ---- saved states

abbrev pub with_slot : Option SavedMachine → MachineState → MachineState
with_slot slot s = record s { slot = slot }

abbrev pub slot_in : Bool → MachineState → Option SavedMachine
slot_in true s = Some (kept s)
slot_in false s = None

-- the states once those of some components were saved
abbrev pub saved_states : Run → List MachineState → (ℕ → Bool) → List MachineState
saved_states r ss saves = each r ss (λ i c m s. with_slot (slot_in (saves i) s) s)

-- only those are put back
abbrev pub IsSavedOne : (ℕ → Bool) → ℕ → Exchange → Type 0
IsSavedOne saves i e = e.call ≡ C.Restore → saves i ≡ true

abbrev pub RestoresSaved : (ℕ → Bool) → List Sent → Type 0
RestoresSaved saves log = (i : ℕ) → All (IsSavedOne saves i) (part i log)

abbrev pub IgnoreSlots : Run → Type 0
IgnoreSlots r = (i : ℕ) (m : Machine) → slice_get r.machines i ≡ Some m → IgnoresSlot m

-- ---- the end

-- whether the answer to the last step asks for the end of the run
abbrev pub flagged : Bool → Call → Result Reply PeerFault → Bool
flagged asks (C.DoStep at size) result = ends_by result
flagged asks call result = asks

abbrev pub asks_last : Bool → List Exchange → Bool
asks_last asks [] = asks
asks_last asks (e ∷ es) = asks_last (flagged asks e.call e.result) es

-- one of the components' last steps does
abbrev pub some_asks_last : Run → List MachineState → List Sent → Bool
some_asks_last r ss log =
    list_any (λ b. b) (each r ss (λ i c m s. asks_last false (part i log)))

-- ---- the law

abbrev pub MachinesCome : Run → List MachineState → ℕ → ℕ → ℕ → (ℕ → Bool) → List Sent →
    Outcome → Type 0
MachinesCome r ss t step b saves log (Meets point) =
    (asks : List ℕ) × Agree (steppers_of r ss t) t step b asks point × (t < point) ×
    (states_by r (saved_states r ss saves) log ≡
    each r ss (λ i c m s.
    with_slot (slot_in (saves i) s) (after m s (step_to t (kept_at asks i)))))
    × (some_asks_last r ss log ≡
    list_any (λ b. b) (each r ss (λ i c m s.
    is_terminating (m.look s (step_to t (kept_at asks i))))))
MachinesCome r ss t step b saves log (Unfit i e) = StopsShort (steppers_of r ss t) t step b i e
MachinesCome r ss t step b saves log (Fails bad) = Unit {0}

-- by a log in which only those whose state was saved are put back, told machines come to the agreement of the run: each is in its state before the step, changed by its kept ask alone, with what it saved
abbrev pub AgreesOverMachines : Type 0
AgreesOverMachines =
    (r : Run) (ss : List MachineState) (t step b : ℕ) (saves : ℕ → Bool) (log : List Sent)
    (outcome : Outcome) → IgnoreSlots r → t < b →
    Agrees t step (asked_first (early_count (shapes_of r.system))) b
    (standing t (fmus_of r ss t)) log outcome →
    RestoresSaved saves log → AreReplies r (saved_states r ss saves) log →
    MachinesCome r ss t step b saves log outcome
