-- The trace of the counter beside a waker.
use Rattle.std.proofs.Common.{ℕ, ℤ, List, [], ◌∷◌, refl, arith}
use Rattle.std.specs.Prelude.{Option, None}
use Rattle.system_model.specs.declared.plan.EndKind.TheVariants.{Stop}
use Rattle.run_model.specs.Run.{Situation, Never}
use Rattle.run_model.specs.Initial.{beginning}
use Rattle.run_model.specs.AfterInstant.{updated}
use Rattle.run_model.specs.Steps.{OnGrid}
use Rattle.run_model.specs.Stepping.{stepped, AtStop}
use Rattle.run_model.specs.Trace.{IsTrace, Runs, Last, Further}
use Rattle.run_rows.specs.Parts.{plan_by}
use Rattle.run_rows.specs.Woken as row
use Rattle.run_rows.proofs.Tools.{NoneBetween, solves_by, initially_by, bound_by, bound_10, bound_20, bound_at_event, departs_at, departs_by}

abbrev w : List (Option ℤ)
w = None ∷ None ∷ []

abbrev s0 : Situation
s0 = beginning row.woken_run w

abbrev z0 : Situation
z0 = updated row.woken_run s0 (row.values 0 0)

abbrev s7 : Situation
s7 = stepped row.woken_run z0 (7 ∷ 7 ∷ []) 7

abbrev z7 : Situation
z7 = updated row.woken_run s7 (row.values 0 2)

abbrev s10 : Situation
s10 = stepped row.woken_run z7 (10 ∷ 10 ∷ []) 10

abbrev z10 : Situation
z10 = updated row.woken_run s10 (row.values 1 4)

abbrev s20 : Situation
s20 = stepped row.woken_run z10 (20 ∷ 20 ∷ []) 20

never : (t b : ℕ) → NoneBetween t b (Never ∷ Never ∷ [])
never t b point later = (λ x. absurd x, (λ x. absurd x, tt))

pub trace : IsTrace row.woken_run row.woken_instants Stop 20
trace = Runs w (initially_by row.woken_run w refl (refl, (refl, tt))) refl
    (Further s0 (row.values 0 0) _ Stop 20 s7 _ (solves_by row.woken_run s0 (row.values 0 0) refl (refl, (refl, tt)))
    (departs_at row.woken_run z0 7 (omega arith) (bound_at_event (plan_by 10 100) z0.timers z0.events 0 7 10 0 (omega arith) (omega arith) refl (bound_10 100 _ (never 0 10)) refl) refl refl refl) refl
    (Further s7 (row.values 0 2) _ Stop 20 s10 _ (solves_by row.woken_run s7 (row.values 0 2) refl (refl, (refl, tt)))
    (departs_by row.woken_run z7 10 (omega arith) (bound_by 10 100 7 10 _ (omega arith) (omega arith) (OnGrid (1, refl)) (never 7 10) (λ k later. omega (arith, later))) refl refl refl refl) refl
    (Further s10 (row.values 1 4) _ Stop 20 s20 _ (solves_by row.woken_run s10 (row.values 1 4) refl (refl, (refl, tt)))
    (departs_by row.woken_run z10 20 (omega arith) (bound_20 100 _ (never 10 20)) refl refl refl refl) refl
    (Last s20 (row.values 1 6) _ Stop 20 (solves_by row.woken_run s20 (row.values 1 6) refl (refl, (refl, tt))) (AtStop _ refl refl) refl))))
