-- The trace of the two gains.
use Rattle.std.proofs.Common.{ℤ, pos, List, [], ◌∷◌, refl, arith}
use Rattle.std.specs.Prelude.{Option, Some, None}
use Rattle.system_model.specs.declared.plan.EndKind.TheVariants.{Stop}
use Rattle.run_model.specs.Run.{Situation}
use Rattle.run_model.specs.Initial.{beginning}
use Rattle.run_model.specs.AfterInstant.{updated}
use Rattle.run_model.specs.Stepping.{stepped, AtStop}
use Rattle.run_model.specs.Trace.{IsTrace, Runs, Last, Further}
use Rattle.run_rows.specs.Gains as row
use Rattle.run_rows.proofs.Tools.{solves_by, initially_by, bound_10, bound_20, departs_by}

abbrev w : List (Option ℤ)
w = None ∷ Some (pos 15) ∷ Some (pos 15) ∷ None ∷ []

abbrev s0 : Situation
s0 = beginning row.gains_run w

abbrev s10 : Situation
s10 = stepped row.gains_run (updated row.gains_run s0 row.values) (10 ∷ 10 ∷ []) 10

abbrev s20 : Situation
s20 = stepped row.gains_run (updated row.gains_run s10 row.values) (20 ∷ 20 ∷ []) 20

pub trace : IsTrace row.gains_run row.gains_instants Stop 20
trace = Runs w (initially_by row.gains_run w refl (refl, (refl, (refl, (refl, tt))))) refl
    (Further s0 row.values _ Stop 20 s10 _ (solves_by row.gains_run s0 row.values refl (refl, (refl, (refl, (refl, tt))))) (departs_by row.gains_run (updated row.gains_run s0 row.values) 10 (omega arith) (bound_10 100 _ (λ point later. (λ x. absurd x, (λ x. absurd x, (λ x. absurd x, (λ x. absurd x, tt)))))) refl refl refl refl) refl
    (Further s10 row.values _ Stop 20 s20 _ (solves_by row.gains_run s10 row.values refl (refl, (refl, (refl, (refl, tt))))) (departs_by row.gains_run (updated row.gains_run s10 row.values) 20 (omega arith) (bound_20 100 _ (λ point later. (λ x. absurd x, (λ x. absurd x, (λ x. absurd x, (λ x. absurd x, tt)))))) refl refl refl refl) refl
    (Last s20 row.values _ Stop 20 (solves_by row.gains_run s20 row.values refl (refl, (refl, (refl, (refl, tt))))) (AtStop _ refl refl) refl)))
