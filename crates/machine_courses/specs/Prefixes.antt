-- The run of a system's machines so far (FMI 3.0, 2.1.5: super-dense time).
use Rattle.std.specs.Prelude.{◌≡◌, ℕ, ℤ, false, List, [], ◌∷◌, ◌++◌, Option}
use Rattle.std.specs.List.{list_any}
use Rattle.system_model.specs.Text.{Instant}
use Rattle.run_model.specs.Behaved.{Departed, Reached}
use Rattle.run_model.specs.Equations.{Solves, is_bad}
use Rattle.run_model.specs.Initial.{SolvesInitially, beginning, is_bad_initially}
use Rattle.run_model.specs.Run.{Run, Situation}
use Rattle.run_model.specs.Stepping.{GoesOn, LacksStep}
use Rattle.run_model.specs.Trace.{Leads, instant_of}
use Rattle.event_iteration.specs.Lost.{IsFirstLost}
use Rattle.event_iteration.specs.declared.lost.LostValue.{LostValue}

-- the run comes to this situation after these instants
pub data CameTo (r : Run) : Situation → List Instant → Type 0 where
  AtFirst : (s : Situation) (is : List Instant) (initial : List (Option ℤ)) →
      SolvesInitially r initial →
      list_any (is_bad_initially r.system initial) r.system.ports ≡ false →
      s ≡ beginning r initial → is ≡ [] → CameTo r s is
  Onward : (s : Situation) (is : List Instant) (before : Situation) (values : List (Option ℤ))
      (earlier : List Instant) →
      CameTo r before earlier → Solves r before values → Leads r before values (GoesOn s) →
      is ≡ earlier ++ instant_of before values ∷ [] → CameTo r s is

-- the run begins with these instants, whatever is after the last
pub data IsPrefix (r : Run) (is : List Instant) : Type 0 where
  Nothing : is ≡ [] → IsPrefix r is
  Before : (s : Situation) → CameTo r s is → IsPrefix r is
  After : (s : Situation) (values : List (Option ℤ)) (earlier : List Instant) →
      CameTo r s earlier → Solves r s values →
      list_any (is_bad values) r.system.ports ≡ false →
      is ≡ earlier ++ instant_of s values ∷ [] → IsPrefix r is

-- at this point the run loses a value on its way to an input, the least of those: of Initialization Mode at the start, or of an instant
pub data LosesAt (r : Run) (lost : LostValue) (point : ℕ) : Type 0 where
  AtTheStart : (initial : List (Option ℤ)) → SolvesInitially r initial →
      IsFirstLost (is_bad_initially r.system initial) r.system.ports initial lost →
      point ≡ r.plan.start → LosesAt r lost point
  InInstant : (s : Situation) (values : List (Option ℤ)) → Reached r s → Solves r s values →
      IsFirstLost (is_bad values) r.system.ports values lost → s.t ≡ point → LosesAt r lost point

-- the run stands at a point that is done, and the component, the least of those, can't take the step that would go from it to the end
pub record LacksStepAt (r : Run) (component at end : ℕ) : Type 0 where
  pub z : Situation
  pub departed : Departed r z
  pub point : z.t ≡ at
  pub lacks : LacksStep r z component end
