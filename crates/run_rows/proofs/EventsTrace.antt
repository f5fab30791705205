-- The trace of the counter and the gain with event mode.
use Rattle.std.proofs.Common.{ℤ, pos, true, List, [], ◌∷◌, refl, arith}
use Rattle.std.specs.Prelude.{Option, Some, None}
use Rattle.system_model.specs.declared.plan.EndKind.TheVariants.{Stop}
use Rattle.run_model.specs.Run.{Situation}
use Rattle.run_model.specs.Initial.{beginning}
use Rattle.run_model.specs.AfterInstant.{updated}
use Rattle.run_model.specs.Stepping.{stepped, AtStop}
use Rattle.run_model.specs.Trace.{IsTrace, Runs, Last, Further}
use Rattle.run_rows.specs.CounterGain as row
use Rattle.run_rows.proofs.Tools.{solves_by, initially_by, bound_10, bound_20, departs_by}

abbrev w : List (Option ℤ)
w = Some (pos 0) ∷ Some (pos 0) ∷ None ∷ []

abbrev s0 : Situation
s0 = beginning (row.counter_gain_run true) w

abbrev s10 : Situation
s10 = stepped (row.counter_gain_run true) (updated (row.counter_gain_run true) s0 row.v0) (10 ∷ 10 ∷ []) 10

abbrev s20 : Situation
s20 = stepped (row.counter_gain_run true) (updated (row.counter_gain_run true) s10 row.v10) (20 ∷ 20 ∷ []) 20

pub trace : IsTrace (row.counter_gain_run true) row.with_events Stop 20
trace = Runs w (initially_by (row.counter_gain_run true) w refl (refl, (refl, (refl, tt)))) refl
    (Further s0 row.v0 _ Stop 20 s10 _ (solves_by (row.counter_gain_run true) s0 row.v0 refl (refl, (refl, (refl, tt)))) (departs_by (row.counter_gain_run true) (updated (row.counter_gain_run true) s0 row.v0) 10 (omega arith) (bound_10 100 _ (λ point later. (λ x. absurd x, (λ x. absurd x, (λ x. absurd x, tt))))) refl refl refl refl) refl
    (Further s10 row.v10 _ Stop 20 s20 _ (solves_by (row.counter_gain_run true) s10 row.v10 refl (refl, (refl, (refl, tt)))) (departs_by (row.counter_gain_run true) (updated (row.counter_gain_run true) s10 row.v10) 20 (omega arith) (bound_20 100 _ (λ point later. (λ x. absurd x, (λ x. absurd x, (λ x. absurd x, tt))))) refl refl refl refl) refl
    (Last s20 row.v20 _ Stop 20 (solves_by (row.counter_gain_run true) s20 row.v20 refl (refl, (refl, (refl, tt)))) (AtStop _ refl refl) refl)))
