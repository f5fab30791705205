-- The loop over the stored order for Initialization.
use Rattle.std.proofs.Common.{◌≡◌, ℕ, ◌<◌, ℤ, List, [], ◌∷◌, Option, Some, None, refl, sym, ap, ◌∙◌, subst, length, get_or, map}
use Rattle.std.specs.Prelude.{All, IfSome, option_map, slice_get}
use Rattle.std.proofs.lemmas.List.{length-map}
use Rattle.std.proofs.lemmas.List.Elements.{All-cons, All-head, All-nil, All-tail}
use Rattle.std.proofs.lemmas.Option.{get_or_from_slice_get, slice_get-get_or, slice_get-map, slice_get_within}
use Rattle.value_types.specs.Values.{Fits}
use Rattle.value_types.specs.declared.shape.Shape.{Shape}
use Rattle.sim_base.specs.declared.numbers.PortId.{PortId}
use Rattle.fmu_peer.specs.CloseAll.{Instance}
use Rattle.system_model.specs.declared.system.Component.{Component}
use Rattle.system_model.specs.declared.system.Port.{Port}
use Rattle.system_model.specs.declared.system.System.{System}
use Rattle.system_model.specs.Ports.{port_numbers, source_of}
use Rattle.system_model.specs.Sound.{IsSound}
use Rattle.system_model.proofs.CallerLemmas.{all_by_place, place_of, source_at}
use Rattle.run_model.specs.Machines.{AreFitting}
use Rattle.slot_calls.specs.Log.{Sent, Told}
use Rattle.slot_calls.specs.Stage.{shapes, shapes_of}
use Rattle.slot_calls.proofs.CallerLemmas.{map_at, shape_of, shapes_same}
use Rattle.event_iteration.specs.Initialization.{IsInInitialization, IsPlaced, initially, no_values}
use Rattle.event_iteration.specs.Turns.{MayTurn, Walked}
use Rattle.event_iteration.proofs.Permits.{Keeps, keeps, may_ask, still}
use Rattle.event_iteration.proofs.Walking.{none_at}

-- ---- the order

-- the number of the port whose turn it is
pub number_at : (order read : List PortId) (k : ℕ) (d : PortId) → read ≡ order → k < length read → slice_get (port_numbers order) k ≡ Some (get_or read k d).0
number_at order read k d same lt =
    slice_get-map (λ (x : PortId). x.0) order k ∙ ap (option_map (λ (x : PortId). x.0)) (ap (λ xs. slice_get xs k) (sym same) ∙ slice_get-get_or read k d lt)

-- what holds of each slot's instance
pub all_instances : {A B : Type 0} (f : A → B) (P : B → Type 0) (xs : List A) → All (λ (a : A). P (f a)) xs → All P (map f xs)
all_instances f P [] all = All-nil P
all_instances f P (x ∷ xs) all = All-cons P (f x) (map f xs) (All-head (λ a. P (f a)) x xs all) (all_instances f P xs (All-tail (λ a. P (f a)) x xs all))

-- ---- before the first turn

pub places_none : (system : System) → length (no_values system) ≡ length system.ports
places_none system = length-map system.ports (λ (x : Port). None)

pub fits_none : (system : System) → AreFitting system (no_values system)
fits_none system p port is = subst (λ o. IfSome o (Fits port.kind)) (sym (none_at system.ports p)) tt

-- ---- what a sound system gives

module _ (system : System) (sound : IsSound system) where
  pub sources_placed : All (IsPlaced (length system.ports)) system.ports
  sources_placed = all_by_place (IsPlaced (length system.ports)) system.ports (λ p port is. by p port is (source_of port.role) refl)
    where
      by : (p : ℕ) (port : Port) → slice_get system.ports p ≡ Some port → (o : Option ℕ) → source_of port.role ≡ o → IfSome o (λ q. q < length system.ports)
      by p port is None from = tt
      by p port is (Some q) from = let source = source_at system sound p q port is from in slice_get_within system.ports q source.source source.is

  pub components_there : All (λ (port : Port). port.component.0 < length system.components) system.ports
  components_there = all_by_place (λ (port : Port). port.component.0 < length system.components) system.ports (λ p port is.
      let placed = place_of system sound p port is in slice_get_within system.components port.component.0 placed.component placed.is.of)

  -- ---- a turn of the loop

  module _ (before : List (Option ℤ)) (len : length before ≡ length system.ports) (fits : AreFitting system before) (olds mids : List Instance) (same : shapes olds ≡ shapes_of system) (initializing : All (λ (x : Instance). IsInInitialization x.view) olds)
      (taken : List ℕ) (values : List (Option ℤ)) (log : List Sent) (told : Told log olds mids) (walked : Walked system (initially system) before taken values log) where
    pub kept : Keeps system values log
    kept = keeps system sound before len fits taken values log walked

    pub shapes_mid : shapes mids ≡ shapes_of system
    shapes_mid = shapes_same log olds mids told ∙ same

    pub may_turn : (p : ℕ) → MayTurn system (initially system) p values mids
    may_turn p port c x is of at =
        let within : port.component.0 < length mids = slice_get_within mids port.component.0 x at in
        let here : x ≡ get_or mids port.component.0 x = sym (get_or_from_slice_get mids port.component.0 x x at) in
        let state : IsInInitialization x.view = subst (λ (y : Instance). IsInInitialization y.view) (sym here) (still system olds mids log told same kept.quiet initializing port.component.0 x within) in
        let shape : x.view.fixed.shape ≡ c.shape =
        map_at shape_of mids port.component.0 x c.shape within here ∙ ap (λ (ss : List Shape). get_or ss port.component.0 c.shape) shapes_mid
        ∙ sym (map_at (λ (y : Component). y.shape) system.components port.component.0 c c.shape (slice_get_within system.components port.component.0 c of) (sym (get_or_from_slice_get system.components port.component.0 c c of))) in
        may_ask system sound values kept.fits p port is x.view state c of shape port.role refl
