-- Values that are lost on their way, by other names of the values.
use Rattle.std.proofs.Common.{◌≡◌, ℕ, ℤ, Bool, true, ◌||◌, ◌&&◌, not, List, [], ◌∷◌, Option, Some, None, refl, sym, ap, ap₂, ◌∙◌}
use Rattle.std.specs.Prelude.{is_some, option_and_then, position}
use Rattle.std.specs.List.{list_any}
use Rattle.std.proofs.lemmas.List.Folds.{list_any_at}
use Rattle.std.proofs.lemmas.List.Quantifiers.{position-Some}
use Rattle.system_model.specs.Carried.{carried}
use Rattle.system_model.specs.Needs.{is_unclocked, is_unclocked_at}
use Rattle.system_model.specs.Values.{value}
use Rattle.system_model.specs.declared.system.Port.{Port}
use Rattle.system_model.specs.declared.system.Role.{Role}
use Rattle.system_model.specs.declared.system.Role.TheVariants.{Input, Output, ClockInput, ClockOutput, TimeClock}
use Rattle.system_model.specs.declared.system.System.{System}
use Rattle.run_model.specs.Initial.{is_bad_initially}
use Rattle.event_iteration.specs.Lost.{IsFirstLost}
use Rattle.event_iteration.specs.declared.lost.LostValue.{LostValue}

module _ (system : System) (V W : List (Option ℤ)) (same : (p : ℕ) → value V p ≡ value W p) where
  pub bad_same : (port : Port) → is_bad_initially system V port ≡ is_bad_initially system W port
  bad_same port = by port.role refl
    where
      by : (role : Role) → port.role ≡ role → is_bad_initially system V (record port { role = role }) ≡ is_bad_initially system W (record port { role = role })
      by (Input None) e = refl
      by (Input (Some feed)) e =
          ap (λ (o : Option ℤ). is_unclocked (record port { role = Input (Some feed) }) && is_unclocked_at system.ports feed.from.0 && (is_some o && not (is_some (option_and_then (carried feed.changes port.kind) o)))) (same feed.from.0)
      by Output e = refl
      by (ClockInput feed) e = refl
      by ClockOutput e = refl
      by (TimeClock timing) e = refl

  pub all_bad_same : (ports : List Port) → list_any (is_bad_initially system V) ports ≡ list_any (is_bad_initially system W) ports
  all_bad_same [] = refl
  all_bad_same (port ∷ ports) = ap₂ ◌||◌ (bad_same port) (all_bad_same ports)

  pub first_same : (lost : LostValue) → IsFirstLost (is_bad_initially system V) system.ports V lost → IsFirstLost (is_bad_initially system W) system.ports W lost
  first_same lost f = record {
    first = sym (ap (λ (test : Port → Bool). position test system.ports) (λ i port. bad_same port i)) ∙ f.first;
    target = f.target;
    at = f.at;
    feed = f.feed;
    fed = f.fed;
    value = sym (same f.feed.from.0) ∙ f.value;
  }

-- one that is found is there
pub some_lost : (test : Port → Bool) (ports : List Port) (lost : LostValue) (values : List (Option ℤ)) → IsFirstLost test ports values lost → list_any test ports ≡ true
some_lost test ports lost values f = let at = position-Some test ports lost.port.0 f.target f.first in list_any_at test ports lost.port.0 f.target at.0 at.1
