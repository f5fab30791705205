-- What the FMU of a Clock is asked in Initialization Mode, and what a good answer tells.
use Rattle.std.proofs.Common.{◌≡◌, ℕ, ◌^◌, ◌<◌, ◌≤◌, true, List, [], ◌∷◌, Some, Ok, sym, ap, ◌∙◌, subst, length}
use Rattle.std.specs.Prelude.{All, option_map, slice_get}
use Rattle.std.proofs.lemmas.Option.{slice_get-map, slice_get_within}
use Rattle.value_types.specs.declared.shape.Shape.{Shape}
use Rattle.fmi_calls.specs.declared.call.Call.TheVariants as C
use Rattle.fmi_calls.specs.declared.call.Reply.{Reply}
use Rattle.fmi_calls.specs.declared.phase.InstanceState.TheVariants as P
use Rattle.fmi_calls.specs.Worth.{has_counts, is_known_interval}
use Rattle.fmu_peer.specs.CloseAll.{Instance}
use Rattle.system_model.specs.declared.system.Component.{Component}
use Rattle.system_model.specs.declared.system.Port.{Port}
use Rattle.system_model.specs.declared.system.Role.TheVariants.{TimeClock}
use Rattle.system_model.specs.declared.system.System.{System}
use Rattle.system_model.specs.declared.system.Timing.TheVariants.{Answered}
use Rattle.system_model.specs.Sound.{IsSound}
use Rattle.system_model.proofs.CallerLemmas.{all_at, Placed, place_of}
use Rattle.run_model.specs.Initial.{interval_in, shift_in}
use Rattle.slot_calls.specs.Stage.{Stage, shapes, shapes_of}
use Rattle.event_iteration.specs.Questions.{InstanceMode, first_reply, modes}
use Rattle.event_iteration.proofs.Answering.{fixed_known, fixed_variability, interval_known, one_answer, shift_known}
use Rattle.event_iteration.proofs.Fixing.{ask_interval, ask_shift}

module _ (system : System) (sound : IsSound system) (p : ℕ) (port : Port) (is : slice_get system.ports p ≡ Some port) where
  abbrev placed : Placed system p port
  placed = place_of system sound p port is

  pub among_components : port.component.0 < length system.components
  among_components = slice_get_within system.components port.component.0 placed.component placed.is.of

  pub shape_here : (ss : List Instance) → shapes ss ≡ shapes_of system → slice_get (shapes ss) port.component.0 ≡ Some placed.component.shape
  shape_here ss alike =
      ap (λ (xs : List Shape). slice_get xs port.component.0) alike ∙ slice_get-map (λ (c : Component). c.shape) system.components port.component.0 ∙ ap (option_map (λ (c : Component). c.shape)) placed.is.of

  module _ (per_second : ℕ) (counts : All (λ (c : Component). c.shape.resolution ≡ per_second) system.components) where
    resolution_is : placed.component.shape.resolution ≡ per_second
    resolution_is = all_at (λ (c : Component). c.shape.resolution ≡ per_second) system.components port.component.0 placed.component counts placed.is.of

    pub in_range : per_second ≤ 2 ^ 62
    in_range =
        let own = all_at (λ (c : Component). c.shape.resolution ≡ sound.components.per_second) system.components port.component.0 placed.component sound.components.resolutions placed.is.of in
        subst (λ (n : ℕ). n ≤ 2 ^ 62) (sym own ∙ resolution_is) sound.components.within

    module _ (olds news : List Instance) (alike : shapes olds ≡ shapes_of system) where
      pub told_interval : port.role ≡ TimeClock Answered → (interval : Reply) → Stage (ask_interval port ∷ []) first_reply olds news (Ok (Some interval)) → is_known_interval (interval_in interval) per_second ≡ true
      told_interval answered interval stage =
          let one = one_answer (shapes olds) port.component.0 (C.GetInterval port.reference) placed.component.shape interval stage.log (shape_here olds alike) stage.says.0 stage.says.1 in
          interval_known placed.component.shape port.reference per_second resolution_is interval (fixed_known _ (fixed_variability system p port placed answered)) one.good

      pub told_shift : (shift : Reply) → Stage (ask_shift port ∷ []) first_reply olds news (Ok (Some shift)) → has_counts 0 (shift_in shift) per_second ≡ true
      told_shift shift stage =
          let one = one_answer (shapes olds) port.component.0 (C.GetShift port.reference) placed.component.shape shift stage.log (shape_here olds alike) stage.says.0 stage.says.1 in
          shift_known placed.component.shape port.reference per_second resolution_is shift one.good

-- the modes are those of Initialization still
pub still_initializing : (olds news : List Instance) → modes news ≡ modes olds → ((i : ℕ) (mode : InstanceMode) → slice_get (modes olds) i ≡ Some mode → mode.state ≡ P.Initialization) →
    (i : ℕ) (mode : InstanceMode) → slice_get (modes news) i ≡ Some mode → mode.state ≡ P.Initialization
still_initializing olds news same all i mode at = all i mode (ap (λ (xs : List InstanceMode). slice_get xs i) (sym same) ∙ at)
