-- What follows an instant of a run of machines.
use Rattle.std.proofs.Common.{◌≡◌, ℕ, suc, ℤ, Bool, true, false, List, Option, sym, ap, ap₂, subst}
use Rattle.std.specs.List.{list_any}
use Rattle.std.specs.Prelude.{◌==◌, if◌then◌else◌}
use Rattle.system_model.specs.Sound.{IsSound}
use Rattle.system_model.specs.Text.{Instant}
use Rattle.run_model.specs.AfterInstant.{Again, AtLimit, Done, Ended, Following, OutOfRange, any_update, asks_for_end, following, goes_again}
use Rattle.run_model.specs.Equations.{is_bad}
use Rattle.run_model.specs.Behaved as B
use Rattle.run_model.specs.Behaved.{Reached}
use Rattle.run_model.specs.Machines.{AreMachines, IsSituation}
use Rattle.run_model.specs.Run.{Run, Situation}
use Rattle.run_model.specs.Stepping.{Next}
use Rattle.run_model.specs.Trace.{Leads, LeadsBy, instant_of}
use Rattle.run_model.proofs.CallerLemmas.{situation_reached}
use Rattle.calling_sequence.specs.Course.{Spot}
use Rattle.machine_courses.specs.Prefixes.{AtFirst, CameTo, Onward}

-- what follows, by whether an Update asks for the end, whether another instant is asked for, and whether the instants have reached their limit
abbrev pub by_answers : (asked again limited : Bool) → Following
by_answers asked again limited = if asked then Ended else (if again then (if limited then AtLimit else Again) else Done)

-- where no value is lost on its way
pub following_by : (r : Run) (s : Situation) (V : List (Option ℤ)) → list_any (is_bad V) r.system.ports ≡ false → following r s V ≡ by_answers (any_update asks_for_end r s V) (goes_again r s V) (suc s.n == r.plan.limit)
following_by r s V kept = ap (λ (b : Bool). if b then OutOfRange else by_answers (any_update asks_for_end r s V) (goes_again r s V) (suc s.n == r.plan.limit)) kept

-- where one is
pub following_lost : (r : Run) (s : Situation) (V : List (Option ℤ)) → list_any (is_bad V) r.system.ports ≡ true → following r s V ≡ OutOfRange
following_lost r s V lost = ap (λ (b : Bool). if b then OutOfRange else by_answers (any_update asks_for_end r s V) (goes_again r s V) (suc s.n == r.plan.limit)) lost

pub leads_by : (r : Run) (s : Situation) (V : List (Option ℤ)) (f : Following) (next : Next) → following r s V ≡ f → LeadsBy f r s V next → Leads r s V next
leads_by r s V f next e leads = subst (λ (g : Following). LeadsBy g r s V next) (sym e) leads

-- the instant at a spot is that of its situation
pub same_instant : (s : Spot) (z : Situation) → z.t ≡ s.t → z.n ≡ s.n → record { t = s.t; n = s.n; values = s.values } ≡ instant_of z s.values
same_instant s z point number = ap₂ (λ (t n : ℕ). instant_of (record z { t = t; n = n }) s.values) (sym point) (sym number)

pub reached_by : (r : Run) (z : Situation) (is : List Instant) → CameTo r z is → Reached r z
reached_by r _ _ (AtFirst s is initial solves kept begins none) = B.AtFirst s initial solves kept begins
reached_by r _ _ (Onward s is before values earlier came solves leads is_is) = B.Onward before values s (reached_by r before earlier came) solves leads

pub situation_by : (r : Run) → IsSound r.system → AreMachines r → (z : Situation) (is : List Instant) → CameTo r z is → IsSituation r z
situation_by r sound machines z is came = situation_reached sound machines (reached_by r z is came)
