-- The trace of `settle` and the FMU that counts its ticks.
use Rattle.std.proofs.Common.{◌≡◌, ℕ, ℤ, ◌+◌, ◌*◌, List, [], ◌∷◌, refl, arith, inl, inr}
use Rattle.std.specs.Prelude.{Option, None}
use Rattle.system_model.specs.declared.plan.EndKind.TheVariants.{Stop}
use Rattle.run_model.specs.Run.{Situation, Every}
use Rattle.run_model.specs.Steps.{AtTick}
use Rattle.run_model.specs.Initial.{beginning}
use Rattle.run_model.specs.AfterInstant.{updated}
use Rattle.run_model.specs.Stepping.{stepped, AtStop}
use Rattle.run_model.specs.Trace.{IsTrace, Runs, Last, Further}
use Rattle.run_rows.specs.Ticks as row
use Rattle.run_rows.proofs.Tools.{solves_by, initially_by, bound_by, departs_by}

abbrev w : List (Option ℤ)
w = None ∷ None ∷ None ∷ None ∷ []

abbrev s0 : Situation
s0 = beginning row.ticks_run w

abbrev s1 : Situation
s1 = updated row.ticks_run s0 (row.values 0 1 0)

abbrev s2 : Situation
s2 = stepped row.ticks_run (updated row.ticks_run s1 (row.values 1 0 1)) (10 ∷ 10 ∷ []) 10

abbrev s3 : Situation
s3 = updated row.ticks_run s2 (row.values 0 1 1)

abbrev s4 : Situation
s4 = stepped row.ticks_run (updated row.ticks_run s3 (row.values 1 0 2)) (20 ∷ 20 ∷ []) 20

abbrev s5 : Situation
s5 = updated row.ticks_run s4 (row.values 0 1 2)

later_instant : {P : Type 0} → (◌≡◌ {A = ℕ} 1 0) × P → ⊥
later_instant h = let e : ◌≡◌ {A = ℕ} 1 0 = h.0 in omega (arith, e)

pub trace : IsTrace row.ticks_run row.ticks_instants Stop 20
trace = Runs w (initially_by row.ticks_run w refl (refl, (refl, (refl, (refl, tt))))) refl
    (Further s0 (row.values 0 1 0) _ Stop 20 s1 _ (solves_by row.ticks_run s0 (row.values 0 1 0) refl (refl, (inl ((refl, (0, refl)), refl), (refl, (refl, tt))))) refl refl
    (Further s1 (row.values 1 0 1) _ Stop 20 s2 _ (solves_by row.ticks_run s1 (row.values 1 0 1) refl (refl, (inr (later_instant, refl), (refl, (refl, tt))))) (departs_by row.ticks_run (updated row.ticks_run s1 (row.values 1 0 1)) 10 (omega arith) (bound_by 20 100 0 10 _ (omega arith) (omega arith) (AtTick (1, Every 10 0, refl, (1, refl))) (λ point later. (λ x. absurd x, (λ x. let e : point ≡ 0 + 0 + x.0 * 10 = x.1 in omega (arith, e, later), (λ x. absurd x, (λ x. absurd x, tt))))) (λ k later. omega (arith, later))) refl refl refl refl) refl
    (Further s2 (row.values 0 1 1) _ Stop 20 s3 _ (solves_by row.ticks_run s2 (row.values 0 1 1) refl (refl, (inl ((refl, (1, refl)), refl), (refl, (refl, tt))))) refl refl
    (Further s3 (row.values 1 0 2) _ Stop 20 s4 _ (solves_by row.ticks_run s3 (row.values 1 0 2) refl (refl, (inr (later_instant, refl), (refl, (refl, tt))))) (departs_by row.ticks_run (updated row.ticks_run s3 (row.values 1 0 2)) 20 (omega arith) (bound_by 20 100 10 20 _ (omega arith) (omega arith) (AtTick (1, Every 10 0, refl, (2, refl))) (λ point later. (λ x. absurd x, (λ x. let e : point ≡ 0 + 0 + x.0 * 10 = x.1 in omega (arith, e, later), (λ x. absurd x, (λ x. absurd x, tt))))) (λ k later. omega (arith, later))) refl refl refl refl) refl
    (Further s4 (row.values 0 1 2) _ Stop 20 s5 _ (solves_by row.ticks_run s4 (row.values 0 1 2) refl (refl, (inl ((refl, (2, refl)), refl), (refl, (refl, tt))))) refl refl
    (Last s5 (row.values 1 0 3) _ Stop 20 (solves_by row.ticks_run s5 (row.values 1 0 3) refl (refl, (inr (later_instant, refl), (refl, (refl, tt))))) (AtStop _ refl refl) refl))))))
