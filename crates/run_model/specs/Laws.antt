-- What holds of runs: one solution of the equations, one trace, and what the situations along a run are.
use Rattle.std.specs.Prelude.{◌≡◌, ℕ, ℤ, List, Option, IfSome}
use Rattle.value_types.specs.Values.{Fits}
use Rattle.value_types.specs.declared.values.PortType.{PortType}
use Rattle.fmi_calls.specs.declared.call.Reply.{Reply}
use Rattle.system_model.specs.Text.{Instant}
use Rattle.system_model.specs.declared.plan.EndKind.{EndKind}
use Rattle.system_model.specs.Sound.{IsSound}
use Rattle.run_model.specs.Run.{Run, Situation}
use Rattle.run_model.specs.Equations.{Solves, value_in}
use Rattle.run_model.specs.Initial.{SolvesInitially, beginning}
use Rattle.run_model.specs.AfterInstant.{updated}
use Rattle.run_model.specs.Stepping.{Next, stepped}
use Rattle.run_model.specs.Trace.{Leads, IsTrace}
use Rattle.run_model.specs.Machines.{AreMachines, AreFitting, IsSituation}
use Rattle.run_model.specs.Behaved.{Reached}

-- ---- one solution

-- some values have the property, and no others
abbrev pub HasOne : (List (Option ℤ) → Type 0) → Type 0
HasOne P =
    (values : List (Option ℤ)) × P values × ((other : List (Option ℤ)) → P other → other ≡ values)

-- the equations of each instant have exactly one solution
abbrev pub SolvedOnce : Type 0
SolvedOnce =
    (r : Run) → IsSound r.system → AreMachines r → (s : Situation) → IsSituation r s →
    HasOne (Solves r s)

-- and so have those of Initialization Mode
abbrev pub SolvedOnceInitially : Type 0
SolvedOnceInitially = (r : Run) → IsSound r.system → AreMachines r → HasOne (SolvesInitially r)

-- ---- one trace

-- an instant leads to one thing at most
abbrev pub OneNext : Type 0
OneNext =
    (r : Run) (s : Situation) (values : List (Option ℤ)) (x y : Next) → Leads r s values x →
    Leads r s values y → x ≡ y

-- two traces of one sound system, its machines and a plan are equal
abbrev pub OneTrace : Type 0
OneTrace =
    (r : Run) → IsSound r.system → AreMachines r →
    (is js : List Instant) (k l : EndKind) (p q : ℕ) → IsTrace r is k p → IsTrace r js l q →
    (is ≡ js) × (k ≡ l) × (p ≡ q)

-- ---- situations

abbrev pub BeginsInSituation : Type 0
BeginsInSituation =
    (r : Run) → AreMachines r → (initial : List (Option ℤ)) → IsSituation r (beginning r initial)

abbrev pub UpdatesToSituation : Type 0
UpdatesToSituation =
    (r : Run) → IsSound r.system → AreMachines r → (s : Situation) (values : List (Option ℤ)) →
    IsSituation r s → Solves r s values → IsSituation r (updated r s values)

abbrev pub StepsToSituation : Type 0
StepsToSituation =
    (r : Run) → AreMachines r → (s : Situation) (kept : List ℕ) (point : ℕ) → IsSituation r s →
    IsSituation r (stepped r s kept point)

-- a run comes to situations alone
abbrev pub ReachesSituations : Type 0
ReachesSituations =
    (r : Run) → IsSound r.system → AreMachines r → (s : Situation) → Reached r s → IsSituation r s

-- ---- values

-- the value that is read off a reply is one of the type
abbrev pub ReadsFitting : Type 0
ReadsFitting = (kind : PortType) (reply : Reply) → IfSome (value_in kind reply) (Fits kind)

-- the values of an instant are of their ports' types
abbrev pub SolvedByFitting : Type 0
SolvedByFitting =
    (r : Run) → IsSound r.system → (s : Situation) (values : List (Option ℤ)) →
    AreFitting r.system s.before → Solves r s values → AreFitting r.system values

-- and so are those of Initialization Mode
abbrev pub SolvedByFittingInitially : Type 0
SolvedByFittingInitially =
    (r : Run) → IsSound r.system → (values : List (Option ℤ)) → SolvesInitially r values →
    AreFitting r.system values
