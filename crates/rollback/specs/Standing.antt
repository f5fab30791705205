-- Where an instance stands between the rounds of an agreed step from t to at most b (FMI 3.0, 4.2.1: Step Mode; 2.2.6: FMU state).
use Rattle.std.specs.Prelude.{◌≡◌, ◌≢◌, ℕ, ◌≤◌, ◌==◌, ◌||◌, Bool, true, false, IfSome, IsTrue, is_some}
use Rattle.value_types.specs.declared.shape.Shape.{Shape}
use Rattle.fmi_calls.specs.Permission.{none_marked}
use Rattle.fmi_calls.specs.declared.phase.InstanceState.TheVariants as P
use Rattle.fmu_peer.specs.declared.slot.Slot.{Slot}
use Rattle.fmu_peer.specs.CloseAll.{peer_in}
use Rattle.fmu_peer.specs.View.{View}
use Rattle.slot_calls.specs.Slots.{IsLive}

-- an FMU of this shape takes a step of the size: any, or that of the plan alone
abbrev pub TakesSize : ℕ → ℕ → Shape → Type 0
TakesSize step size shape = IsTrue (shape.has_variable_steps || size == step)

-- in Step Mode, after steps of sizes that the plan's step allows, with its state saved at t or not; elsewhere than at t no input is set
pub record InStep (t b step : ℕ) (saves : Bool) (v : View) : Type 0 where
  pub state : v.phase.state ≡ P.Step
  pub stop : b ≤ v.phase.stop
  pub sized : IfSome v.phase.first_size (λ size. TakesSize step size v.fixed.shape)
  pub full : v.phase.slot.is_full ≡ saves
  pub saved : saves ≡ true → v.phase.slot.point ≡ t
  pub may_save : saves ≡ true → v.fixed.shape.can_save_state ≡ true
  pub unset : v.phase.point ≢ t → none_marked v.phase.marks ≡ true

-- the FMU of a slot stands so, and its saved state is held exactly where there is one
pub record Placed {L : Type 0} {g : _} (view : L → View) (t b step : ℕ)
    (slot : Slot L g) : Type 0 where
  pub live : IsLive view slot.held
  pub stands : InStep t b step (is_some slot.saved) (view (peer_in slot.held))

-- the FMU of a slot stands at t, and no state of it is saved
pub record IsReady {L : Type 0} {g : _} (view : L → View) (t b step : ℕ)
    (slot : Slot L g) : Type 0 where
  pub placed : Placed view t b step slot
  pub unsaved : is_some slot.saved ≡ false
  pub at : (view (peer_in slot.held)).phase.point ≡ t

-- the FMU of a slot has stepped to m: it is ready there, and since then no input is set
pub record HasStepped {L : Type 0} {g : _} (view : L → View) (m step : ℕ)
    (slot : Slot L g) : Type 0 where
  pub ready : IsReady view m m step slot
  pub unset : none_marked (view (peer_in slot.held)).phase.marks ≡ true
