-- Runs that differ alone in what no definition of a run reads: the orders of their ports, and the number of workers (FMI 3.0, 2.1.5: super-dense time; SSP 1.0: System).
use Rattle.std.specs.Prelude.{◌≡◌, ℕ, List}
use Rattle.system_model.specs.declared.plan.EndKind.{EndKind}
use Rattle.system_model.specs.declared.plan.Plan.{Plan}
use Rattle.system_model.specs.Text.{Instant}
use Rattle.run_model.specs.Behaved.{WellBehaved}
use Rattle.run_model.specs.Run.{Run, Situation}
use Rattle.run_model.specs.Trace.{IsTrace}
use Rattle.run_rest.specs.Held.{Held}
use Rattle.run_rest.specs.Packing.{Packing, ReadsBack}
use Rattle.machine_courses.specs.Kept.{PutsState, TakesState}

-- the same components and ports, values of parameters and machines, and the same plan but for its workers
pub record AreAlike (r q : Run) : Type 0 where
  pub components : r.system.components ≡ q.system.components
  pub ports : r.system.ports ≡ q.system.ports
  pub bound : r.bound ≡ q.bound
  pub machines : r.machines ≡ q.machines
  pub plan : record r.plan { workers = q.plan.workers } ≡ q.plan

-- what is the trace of the one is that of the other
abbrev pub TraceAlike : Type 0
TraceAlike =
    (r q : Run) → AreAlike r q → (is : List Instant) (kind : EndKind) (point : ℕ) →
    IsTrace r is kind point → IsTrace q is kind point

-- where the FMUs of the one behave well, those of the other do
abbrev pub BehaveAlike : Type 0
BehaveAlike = (r q : Run) → AreAlike r q → WellBehaved r → WellBehaved q

-- where the one can be held, the other can
abbrev pub HeldAlike : Type 0
HeldAlike =
    (r q : Run) → AreAlike r q → (is : List Instant) (z : Situation) → Held r is z → Held q is z

-- where the states of the one are read back as they were saved, those of the other are
abbrev pub ReadBackAlike : Type 0
ReadBackAlike =
    (r q : Run) → AreAlike r q → (packings : List Packing) → ReadsBack r packings →
    ReadsBack q packings

-- where an FMU of the one puts its states as bytes well, or takes them in, that of the other does
abbrev pub PutsAlike : Type 0
PutsAlike = (r q : Run) → AreAlike r q → (i : ℕ) → PutsState r i → PutsState q i

abbrev pub TakesAlike : Type 0
TakesAlike =
    (r q : Run) → AreAlike r q → (own : Plan) (i : ℕ) → TakesState r own i → TakesState q own i
