-- What follows from a walk by its log, and that its calls may be sent.
use Rattle.std.proofs.Common.{◌≡◌, ℕ, ◌<◌, ℤ, Bool, true, List, [], ◌∷◌, ◌++◌, Option, Result, Ok, Err, refl, ap, ◌∙◌, length, map}
use Rattle.std.specs.Prelude.{All}
use Rattle.value_types.specs.declared.shape.Shape.{Shape}
use Rattle.fmu_peer.specs.CloseAll.{Instance}
use Rattle.system_model.specs.Needs.{Needs, NeedsInitially, is_unclocked_at}
use Rattle.system_model.specs.Orders.{IsOrder}
use Rattle.system_model.specs.declared.system.System.{System}
use Rattle.system_model.specs.Ports.{port_numbers}
use Rattle.system_model.specs.Sound.{IsSound}
use Rattle.run_model.specs.Machines.{AreFitting}
use Rattle.slot_calls.specs.declared.bad_answer.BadAnswer.{BadAnswer}
use Rattle.slot_calls.specs.Stage.{shapes, shapes_of}
use Rattle.event_iteration.specs.Explains.{Walks}
use Rattle.event_iteration.specs.Initialization.{IsInInitialization, initially, no_values}
use Rattle.event_iteration.specs.Instants.{BeginsInstant, in_instant}
use Rattle.event_iteration.specs.Turns.{Rules}
use Rattle.event_iteration.specs.Waits.{MayWalk, WalkOutcome, untold}
use Rattle.event_iteration.proofs.Finding.{about_initially}
use Rattle.event_iteration.proofs.InInstant as N
use Rattle.event_iteration.proofs.InInstant.{about_instant}
use Rattle.event_iteration.proofs.Rounds as R
use Rattle.event_iteration.proofs.Rounds.{all_instances, fits_none, places_none}
use Rattle.event_iteration.proofs.Walking.{AreAbout, explained, walked_all}

shapes_untold : (is : List Instance) → shapes (map untold is) ≡ shapes is
shapes_untold [] = refl
shapes_untold (x ∷ is) = ap (λ (l : List Shape). x.view.fixed.shape ∷ l) (shapes_untold is)

-- a walk is told by its log
pub walks_by : (IsAmong : ℕ → Type 0) (NeedsOf : ℕ → ℕ → Type 0) (system : System) (rules : Rules) → AreAbout NeedsOf system rules → (before : List (Option ℤ)) (order : List ℕ) → IsOrder IsAmong NeedsOf order → length before ≡ length system.ports →
    (values : List (Option ℤ)) (olds news : List Instance) (result : Result (Unit {0}) BadAnswer) → WalkOutcome system rules before order values olds news result → Walks system rules before order values olds news result
walks_by IsAmong NeedsOf system rules about before order ordered len values olds news (Ok x) (log, told, walked) =
    walked_all IsAmong NeedsOf system rules about before order ordered len olds news log told values walked
walks_by IsAmong NeedsOf system rules about before order ordered len values olds news (Err bad) ends = record {
  log = ends.prefix ++ ends.last ∷ [];
  told = ends.told;
  says = (
    ends.values,
    record {
      taken = ends.taken;
      p = ends.p;
      rest = ends.rest;
      order_is = ends.order_is;
      prefix = ends.prefix;
      last = ends.last;
      log_is = refl;
      told = explained IsAmong NeedsOf system rules about before order ordered len ends.taken (ends.p ∷ ends.rest) ends.values ends.prefix ends.order_is ends.walked;
      stops = ends.stops;
    },
  );
}

module _ (system : System) (sound : IsSound system) (olds : List Instance) (same : shapes olds ≡ shapes_of system) where
  same_untold : shapes (map untold olds) ≡ shapes_of system
  same_untold = shapes_untold olds ∙ same

  -- ---- an instant

  module _ (ticks : ℕ → Bool) (is_first : Bool) (before : List (Option ℤ)) (len : length before ≡ length system.ports) where
    pub may_walk_in_instant : AreFitting system before → All (λ (x : Instance). BeginsInstant x.view) olds → MayWalk system (in_instant ticks is_first) before (port_numbers system.instant_order) olds
    may_walk_in_instant fits begins taken p rest values log mids is walked told =
        N.may_turn system sound ticks is_first before len fits (map untold olds) mids same_untold
        (all_instances untold (λ (x : Instance). BeginsInstant x.view) olds (λ k d lt. let b = begins k d lt in record { running = b.running; unset = b.unset; room = b.room }))
        taken values log told walked rest p is

    pub walks_in_instant : (values : List (Option ℤ)) (news : List Instance) (result : Result (Unit {0}) BadAnswer) → WalkOutcome system (in_instant ticks is_first) before (port_numbers system.instant_order) values olds news result →
        Walks system (in_instant ticks is_first) before (port_numbers system.instant_order) values olds news result
    walks_in_instant values news result goes =
        walks_by (λ q. q < length system.ports) (Needs system) system (in_instant ticks is_first) (about_instant system ticks is_first) before (port_numbers system.instant_order) sound.instant_order len values olds news result goes

  -- ---- Initialization Mode

  pub may_walk_initially : All (λ (x : Instance). IsInInitialization x.view) olds → MayWalk system (initially system) (no_values system) (port_numbers system.initial_order) olds
  may_walk_initially initializing taken p rest values log mids is walked told =
      R.may_turn system sound (no_values system) (places_none system) (fits_none system) (map untold olds) mids same_untold (all_instances untold (λ (x : Instance). IsInInitialization x.view) olds (λ k d lt. initializing k d lt)) taken values log told walked p

  pub walks_initially : (values : List (Option ℤ)) (news : List Instance) (result : Result (Unit {0}) BadAnswer) → WalkOutcome system (initially system) (no_values system) (port_numbers system.initial_order) values olds news result →
      Walks system (initially system) (no_values system) (port_numbers system.initial_order) values olds news result
  walks_initially values news result goes =
      walks_by (λ q. is_unclocked_at system.ports q ≡ true) (NeedsInitially system) system (initially system) (about_initially system) (no_values system) (port_numbers system.initial_order) sound.initial_order (places_none system) values olds news result goes
