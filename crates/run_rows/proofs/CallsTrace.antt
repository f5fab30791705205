-- The trace of the FMU that tells its calls.
use Rattle.std.proofs.Common.{ℤ, List, [], ◌∷◌, refl, arith}
use Rattle.std.specs.Prelude.{Option, None}
use Rattle.system_model.specs.declared.plan.EndKind.TheVariants.{Stop}
use Rattle.run_model.specs.Run.{Situation}
use Rattle.run_model.specs.Initial.{beginning}
use Rattle.run_model.specs.AfterInstant.{updated}
use Rattle.run_model.specs.Stepping.{stepped, AtStop}
use Rattle.run_model.specs.Trace.{IsTrace, Runs, Last, Further}
use Rattle.run_rows.specs.Calls as row
use Rattle.run_rows.proofs.Tools.{solves_by, initially_by, bound_10, bound_20, departs_by}

abbrev w : List (Option ℤ)
w = None ∷ []

abbrev s0 : Situation
s0 = beginning row.calls_run w

abbrev s10 : Situation
s10 = stepped row.calls_run (updated row.calls_run s0 row.v0) (10 ∷ []) 10

abbrev s20 : Situation
s20 = stepped row.calls_run (updated row.calls_run s10 row.v10) (20 ∷ []) 20

pub trace : IsTrace row.calls_run row.calls_instants Stop 20
trace = Runs w (initially_by row.calls_run w refl (refl, tt)) refl
    (Further s0 row.v0 _ Stop 20 s10 _ (solves_by row.calls_run s0 row.v0 refl (refl, tt)) (departs_by row.calls_run (updated row.calls_run s0 row.v0) 10 (omega arith) (bound_10 100 _ (λ point later. (λ x. absurd x, tt))) refl refl refl refl) refl
    (Further s10 row.v10 _ Stop 20 s20 _ (solves_by row.calls_run s10 row.v10 refl (refl, tt)) (departs_by row.calls_run (updated row.calls_run s10 row.v10) 20 (omega arith) (bound_20 100 _ (λ point later. (λ x. absurd x, tt))) refl refl refl refl) refl
    (Last s20 row.v20 _ Stop 20 (solves_by row.calls_run s20 row.v20 refl (refl, tt)) (AtStop _ refl refl) refl)))
