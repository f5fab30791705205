-- The one trace of a system of FMUs under a plan (FMI 3.0, 2.1.5: super-dense time; 4.2.1: Co-Simulation).
use Rattle.std.specs.Prelude.{◌≡◌, ℕ, ℤ, true, false, List, [], ◌∷◌, Option}
use Rattle.std.specs.List.{list_any}
use Rattle.system_model.specs.declared.plan.EndKind.{EndKind}
use Rattle.system_model.specs.declared.plan.EndKind.TheVariants.{Asked, Limit, Range}
use Rattle.system_model.specs.Text.{Instant}
use Rattle.run_model.specs.Run.{Run, Situation}
use Rattle.run_model.specs.Equations.{Solves}
use Rattle.run_model.specs.Initial.{SolvesInitially, beginning, is_bad_initially}
use Rattle.run_model.specs.AfterInstant.{Following, OutOfRange, Ended, AtLimit, Again, Done, following, updated}
use Rattle.run_model.specs.Stepping.{Next, Ends, EndsBefore, GoesOn, Departs}

abbrev pub instant_of : Situation → List (Option ℤ) → Instant
instant_of s values = record { t = s.t; n = s.n; values = values }

abbrev pub LeadsBy : Following → Run → Situation → List (Option ℤ) → Next → Type 0
LeadsBy OutOfRange r s values next = next ≡ EndsBefore Range s.t
LeadsBy Ended r s values next = next ≡ Ends Asked s.t
LeadsBy AtLimit r s values next = next ≡ Ends Limit s.t
LeadsBy Again r s values next = next ≡ GoesOn (updated r s values)
LeadsBy Done r s values next = Departs r (updated r s values) next

-- what follows the instant with these values: the end that an Update asks for, the end at the limit, another instant at the point, or a step
abbrev pub Leads : Run → Situation → List (Option ℤ) → Next → Type 0
Leads r s values next = LeadsBy (following r s values) r s values next

-- from here on the instants and the end are these
pub data Continues (r : Run) : Situation → List Instant → EndKind → ℕ → Type 0 where
  Last : (s : Situation) (values : List (Option ℤ)) (is : List Instant) (kind : EndKind) (end : ℕ) →
      Solves r s values → Leads r s values (Ends kind end) → is ≡ instant_of s values ∷ [] →
      Continues r s is kind end
  Unwritten : (s : Situation) (values : List (Option ℤ)) (is : List Instant) (kind : EndKind)
      (end : ℕ) → Solves r s values → Leads r s values (EndsBefore kind end) → is ≡ [] →
      Continues r s is kind end
  Further : (s : Situation) (values : List (Option ℤ)) (is : List Instant) (kind : EndKind)
      (end : ℕ) (next : Situation) (rest : List Instant) →
      Solves r s values → Leads r s values (GoesOn next) → is ≡ instant_of s values ∷ rest →
      Continues r next rest kind end → Continues r s is kind end

-- the instants and the end of the run, with the values of its Initialization
pub data IsTrace (r : Run) (instants : List Instant) (kind : EndKind) (end : ℕ) : Type 0 where
  Fails : (initial : List (Option ℤ)) → SolvesInitially r initial →
      list_any (is_bad_initially r.system initial) r.system.ports ≡ true → instants ≡ [] →
      kind ≡ Range → end ≡ r.plan.start → IsTrace r instants kind end
  Runs : (initial : List (Option ℤ)) → SolvesInitially r initial →
      list_any (is_bad_initially r.system initial) r.system.ports ≡ false →
      Continues r (beginning r initial) instants kind end → IsTrace r instants kind end
