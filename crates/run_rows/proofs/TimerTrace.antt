-- The trace of the timer.
use Rattle.std.proofs.Common.{ℕ, ℤ, List, [], ◌∷◌, refl, arith, inl, inr}
use Rattle.std.specs.Prelude.{Option, None}
use Rattle.system_model.specs.declared.plan.EndKind.TheVariants.{Stop}
use Rattle.run_model.specs.Run.{Situation, Never}
use Rattle.run_model.specs.Initial.{beginning}
use Rattle.run_model.specs.AfterInstant.{updated}
use Rattle.run_model.specs.Stepping.{stepped, AtStop}
use Rattle.run_model.specs.Trace.{IsTrace, Runs, Last, Further}
use Rattle.run_rows.specs.Timer.{timer_run, timer_instants, quiet, ticked}
use Rattle.run_rows.proofs.Tools.{NoneBetween, solves_by, initially_by, bound_10, bound_20, departs_by}

abbrev none : List (Option ℤ)
none = None ∷ None ∷ []

abbrev s0 : Situation
s0 = beginning timer_run none

abbrev s10 : Situation
s10 = stepped timer_run (updated timer_run s0 quiet) (10 ∷ []) 10

abbrev s20 : Situation
s20 = stepped timer_run (updated timer_run s10 quiet) (20 ∷ []) 20

abbrev s21 : Situation
s21 = updated timer_run s20 quiet

no_ticks : (t b : ℕ) → NoneBetween t b (Never ∷ Never ∷ [])
no_ticks t b point later = (λ x. absurd x, (λ x. absurd x, tt))

pub trace : IsTrace timer_run timer_instants Stop 20
trace = Runs none (initially_by timer_run none refl (refl, (refl, tt))) refl
    (Further s0 quiet _ Stop 20 s10 _ (solves_by timer_run s0 quiet refl (inr (λ h. h, refl), (refl, tt))) (departs_by timer_run (updated timer_run s0 quiet) 10 (omega arith) (bound_10 100 _ (no_ticks 0 10)) refl refl refl refl) refl
    (Further s10 quiet _ Stop 20 s20 _ (solves_by timer_run s10 quiet refl (inr (λ h. h, refl), (refl, tt))) (departs_by timer_run (updated timer_run s10 quiet) 20 (omega arith) (bound_20 100 _ (no_ticks 10 20)) refl refl refl refl) refl
    (Further s20 quiet _ Stop 20 s21 _ (solves_by timer_run s20 quiet refl (inr (λ h. h, refl), (refl, tt))) refl refl
    (Last s21 ticked _ Stop 20 (solves_by timer_run s21 ticked refl (inl (refl, refl), (refl, tt))) (AtStop _ refl refl) refl))))
