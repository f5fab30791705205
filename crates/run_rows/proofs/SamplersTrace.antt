-- The trace of the two samplers.
use Rattle.std.proofs.Common.{◌≡◌, ℕ, ℤ, ◌+◌, ◌*◌, List, [], ◌∷◌, refl, arith, inl, inr}
use Rattle.std.specs.Prelude.{Option, None}
use Rattle.system_model.specs.declared.plan.EndKind.TheVariants.{Stop}
use Rattle.run_model.specs.Run.{Situation}
use Rattle.run_model.specs.Initial.{beginning}
use Rattle.run_model.specs.AfterInstant.{updated}
use Rattle.run_model.specs.Stepping.{stepped, AtStop}
use Rattle.run_model.specs.Trace.{IsTrace, Runs, Last, Further}
use Rattle.run_rows.specs.Samplers as row
use Rattle.run_rows.proofs.Tools.{solves_by, initially_by, bound_10, bound_20, departs_by}

abbrev w : List (Option ℤ)
w = None ∷ None ∷ None ∷ None ∷ None ∷ None ∷ []

abbrev s0 : Situation
s0 = beginning row.samplers_run w

abbrev s10 : Situation
s10 = stepped row.samplers_run (updated row.samplers_run s0 row.v0) (10 ∷ 10 ∷ []) 10

abbrev s20 : Situation
s20 = stepped row.samplers_run (updated row.samplers_run s10 row.v10) (20 ∷ 20 ∷ []) 20

quiet_at_0 : (◌≡◌ {A = ℕ} 0 0) × ((k : ℕ) × (◌≡◌ {A = ℕ} 0 (0 + 10 + k * 1000))) → ⊥
quiet_at_0 h = let e : ◌≡◌ {A = ℕ} 0 (0 + 10 + h.1.0 * 1000) = h.1.1 in omega (arith, e)

quiet_at_20 : (◌≡◌ {A = ℕ} 0 0) × ((k : ℕ) × (◌≡◌ {A = ℕ} 20 (0 + 10 + k * 1000))) → ⊥
quiet_at_20 h = let e : ◌≡◌ {A = ℕ} 20 (0 + 10 + h.1.0 * 1000) = h.1.1 in omega (arith, e)

pub trace : IsTrace row.samplers_run row.samplers_instants Stop 20
trace = Runs w (initially_by row.samplers_run w refl (refl, (refl, (refl, (refl, (refl, (refl, tt))))))) refl
    (Further s0 row.v0 _ Stop 20 s10 _ (solves_by row.samplers_run s0 row.v0 refl (inr (quiet_at_0, refl), (refl, (refl, (inl ((refl, (0, refl)), refl), (refl, (refl, tt))))))) (departs_by row.samplers_run (updated row.samplers_run s0 row.v0) 10 (omega arith) (bound_10 100 _ (λ point later. (λ x. let e : point ≡ 0 + 10 + x.0 * 1000 = x.1 in omega (arith, e, later), (λ x. absurd x, (λ x. absurd x, (λ x. let e : point ≡ 0 + 0 + x.0 * 10 = x.1 in omega (arith, e, later), (λ x. absurd x, (λ x. absurd x, tt)))))))) refl refl refl refl) refl
    (Further s10 row.v10 _ Stop 20 s20 _ (solves_by row.samplers_run s10 row.v10 refl (inl ((refl, (0, refl)), refl), (refl, (refl, (inl ((refl, (1, refl)), refl), (refl, (refl, tt))))))) (departs_by row.samplers_run (updated row.samplers_run s10 row.v10) 20 (omega arith) (bound_20 100 _ (λ point later. (λ x. let e : point ≡ 0 + 10 + x.0 * 1000 = x.1 in omega (arith, e, later), (λ x. absurd x, (λ x. absurd x, (λ x. let e : point ≡ 0 + 0 + x.0 * 10 = x.1 in omega (arith, e, later), (λ x. absurd x, (λ x. absurd x, tt)))))))) refl refl refl refl) refl
    (Last s20 row.v20 _ Stop 20 (solves_by row.samplers_run s20 row.v20 refl (inr (quiet_at_20, refl), (refl, (refl, (inl ((refl, (2, refl)), refl), (refl, (refl, tt))))))) (AtStop _ refl refl) refl)))
