-- The trace of the FMU with a fixed Clock.
use Rattle.std.proofs.Common.{◌≡◌, ◌+◌, ◌*◌, ℕ, ℤ, List, [], ◌∷◌, refl, arith, inl, inr}
use Rattle.std.specs.Prelude.{Option, None}
use Rattle.system_model.specs.declared.plan.EndKind.TheVariants.{Stop}
use Rattle.run_model.specs.Run.{Situation, Never, Every}
use Rattle.run_model.specs.Initial.{beginning}
use Rattle.run_model.specs.AfterInstant.{updated}
use Rattle.run_model.specs.Steps.{AtTick}
use Rattle.run_model.specs.Stepping.{stepped, AtStop}
use Rattle.run_model.specs.Trace.{IsTrace, Runs, Last, Further}
use Rattle.run_rows.specs.FixedClock as row
use Rattle.run_rows.proofs.Tools.{NoneBetween, solves_by, initially_by, bound_by, departs_by}

abbrev w : List (Option ℤ)
w = None ∷ None ∷ None ∷ []

abbrev s0 : Situation
s0 = beginning row.fixed_run w

abbrev s10 : Situation
s10 = stepped row.fixed_run (updated row.fixed_run s0 (row.values 0 0)) (10 ∷ []) 10

abbrev s20 : Situation
s20 = stepped row.fixed_run (updated row.fixed_run s10 (row.values 1 0)) (20 ∷ []) 20

quiet_at_0 : (◌≡◌ {A = ℕ} 0 0) × ((k : ℕ) × (◌≡◌ {A = ℕ} 0 (0 + 10 + k * 10))) → ⊥
quiet_at_0 h = let e : ◌≡◌ {A = ℕ} 0 (0 + 10 + h.1.0 * 10) = h.1.1 in omega (arith, e)

before_10 : NoneBetween 0 10 (Every 10 10 ∷ Never ∷ Never ∷ [])
before_10 point later = (λ x. let e : point ≡ 0 + 10 + x.0 * 10 = x.1 in omega (arith, e, later), (λ x. absurd x, (λ x. absurd x, tt)))

before_20 : NoneBetween 10 20 (Every 10 10 ∷ Never ∷ Never ∷ [])
before_20 point later = (λ x. let e : point ≡ 0 + 10 + x.0 * 10 = x.1 in omega (arith, e, later), (λ x. absurd x, (λ x. absurd x, tt)))

pub trace : IsTrace row.fixed_run row.fixed_instants Stop 20
trace = Runs w (initially_by row.fixed_run w refl (refl, (refl, (refl, tt)))) refl
    (Further s0 (row.values 0 0) _ Stop 20 s10 _ (solves_by row.fixed_run s0 (row.values 0 0) refl (inr (quiet_at_0, refl), (refl, (refl, tt))))
    (departs_by row.fixed_run (updated row.fixed_run s0 (row.values 0 0)) 10 (omega arith) (bound_by 20 100 0 10 _ (omega arith) (omega arith) (AtTick (0, Every 10 10, refl, (0, refl))) before_10 (λ k later. omega (arith, later))) refl refl refl refl) refl
    (Further s10 (row.values 1 0) _ Stop 20 s20 _ (solves_by row.fixed_run s10 (row.values 1 0) refl (inl ((refl, (0, refl)), refl), (refl, (refl, tt))))
    (departs_by row.fixed_run (updated row.fixed_run s10 (row.values 1 0)) 20 (omega arith) (bound_by 20 100 10 20 _ (omega arith) (omega arith) (AtTick (0, Every 10 10, refl, (1, refl))) before_20 (λ k later. omega (arith, later))) refl refl refl refl) refl
    (Last s20 (row.values 1 1) _ Stop 20 (solves_by row.fixed_run s20 (row.values 1 1) refl (inl ((refl, (1, refl)), refl), (refl, (refl, tt)))) (AtStop _ refl refl) refl)))
