-- The trace of the counter beside an alarm.
use Rattle.std.proofs.Common.{◌≡◌, ℕ, ℤ, List, [], ◌∷◌, refl, arith}
use Rattle.std.specs.Prelude.{Option, None}
use Rattle.std.proofs.lemmas.Option.{none-some as none_some}
use Rattle.std.proofs.lemmas.List.Elements.{All-nil, All-cons}
use Rattle.system_model.specs.declared.plan.EndKind.TheVariants.{Stop}
use Rattle.run_model.specs.Run.{Situation, Never}
use Rattle.run_model.specs.Initial.{beginning}
use Rattle.run_model.specs.AfterInstant.{updated}
use Rattle.run_model.specs.Steps.{OnGrid, OthersEnd, OthersMeet, Stepper}
use Rattle.run_model.specs.Stepping.{GoesOn, ByStep, Departs, stepped, steppers, AtStop}
use Rattle.run_model.specs.Trace.{IsTrace, Runs, Last, Further}
use Rattle.run_rows.specs.Alarmed as row
use Rattle.run_rows.proofs.Tools.{NoneBetween, solves_by, initially_by, bound_by, bound_10, bound_20, departs_by, with_events}

abbrev w : List (Option ℤ)
w = None ∷ None ∷ []

abbrev s0 : Situation
s0 = beginning row.alarmed_run w

abbrev z0 : Situation
z0 = updated row.alarmed_run s0 (row.values 0 0)

-- the alarm keeps the ask to 10, which it ended at 7, and the counter that to 7
abbrev s7 : Situation
s7 = stepped row.alarmed_run z0 (7 ∷ 10 ∷ []) 7

abbrev s10 : Situation
s10 = stepped row.alarmed_run (updated row.alarmed_run s7 (row.values 2 1)) (10 ∷ 10 ∷ []) 10

abbrev s20 : Situation
s20 = stepped row.alarmed_run (updated row.alarmed_run s10 (row.values 4 1)) (20 ∷ 20 ∷ []) 20

never : (t b : ℕ) → NoneBetween t b (Never ∷ Never ∷ [])
never t b point later = (λ x. absurd x, (λ x. absurd x, tt))

others : OthersEnd (steppers row.alarmed_run z0) 10
others = All-cons (λ (f : Stepper). f.end 7 ≡ 7) _ [] refl (All-nil (λ (f : Stepper). f.end 7 ≡ 7))

early : Departs row.alarmed_run z0 (GoesOn s7)
early = ByStep _ (7 ∷ 10 ∷ []) 7 (record {
  before_stop = omega arith;
  bound = 10;
  is_bound = with_events _ _ z0.events 0 10 (bound_10 100 _ (never 0 10)) refl;
  agree = OthersMeet 10 (7 ∷ 10 ∷ []) 7 (λ i f. none_some _ f.least) (λ e. ten_is_7 e) (λ i f. none_some _ f.least) others refl refl;
}) refl refl
  where
    ten_is_7 : ◌≡◌ {A = ℕ} 7 10 → ⊥
    ten_is_7 e = omega (arith, e)

pub trace : IsTrace row.alarmed_run row.alarmed_instants Stop 20
trace = Runs w (initially_by row.alarmed_run w refl (refl, (refl, tt))) refl
    (Further s0 (row.values 0 0) _ Stop 20 s7 _ (solves_by row.alarmed_run s0 (row.values 0 0) refl (refl, (refl, tt))) early refl
    (Further s7 (row.values 2 1) _ Stop 20 s10 _ (solves_by row.alarmed_run s7 (row.values 2 1) refl (refl, (refl, tt)))
    (departs_by row.alarmed_run (updated row.alarmed_run s7 (row.values 2 1)) 10 (omega arith) (bound_by 10 100 7 10 _ (omega arith) (omega arith) (OnGrid (1, refl)) (never 7 10) (λ k later. omega (arith, later))) refl refl refl refl) refl
    (Further s10 (row.values 4 1) _ Stop 20 s20 _ (solves_by row.alarmed_run s10 (row.values 4 1) refl (refl, (refl, tt)))
    (departs_by row.alarmed_run (updated row.alarmed_run s10 (row.values 4 1)) 20 (omega arith) (bound_20 100 _ (never 10 20)) refl refl refl refl) refl
    (Last s20 (row.values 6 1) _ Stop 20 (solves_by row.alarmed_run s20 (row.values 6 1) refl (refl, (refl, tt))) (AtStop _ refl refl) refl))))
