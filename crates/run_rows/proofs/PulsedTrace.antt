-- The trace of the pulse.
use Rattle.std.proofs.Common.{◌≡◌, ℕ, ◌<◌, ◌≤◌, ℤ, List, [], ◌∷◌, refl, arith, inl, inr}
use Rattle.std.specs.Prelude.{Option, None}
use Rattle.system_model.specs.declared.plan.EndKind.TheVariants.{Stop}
use Rattle.run_model.specs.Run.{Situation, Never, Once}
use Rattle.run_model.specs.Initial.{beginning}
use Rattle.run_model.specs.AfterInstant.{updated}
use Rattle.run_model.specs.Steps.{IsBound, OnGrid, AtTick}
use Rattle.run_model.specs.Stepping.{stepped, AtStop}
use Rattle.run_model.specs.Trace.{IsTrace, Runs, Last, Further}
use Rattle.run_rows.specs.Parts.{plan_by}
use Rattle.run_rows.specs.Pulsed as row
use Rattle.run_rows.proofs.Tools.{NoneBetween, NoGridBetween, solves_by, initially_by, bound_by, departs_by}

abbrev w : List (Option ℤ)
w = None ∷ None ∷ []

-- where the point is done whose values these are, and where the step from it leads
abbrev after : Situation → ℕ → ℕ → Situation
after s clock ticks = updated row.pulsed_run s (row.values clock ticks)

abbrev next : Situation → ℕ → ℕ → ℕ → Situation
next s clock ticks point = stepped row.pulsed_run (after s clock ticks) (point ∷ []) point

abbrev s0 : Situation
s0 = beginning row.pulsed_run w

abbrev s2 : Situation
s2 = next s0 0 0 2

abbrev s5 : Situation
s5 = next s2 1 0 5

abbrev s9 : Situation
s9 = next s5 1 1 9

abbrev s10 : Situation
s10 = next s9 1 2 10

abbrev s14 : Situation
s14 = next s10 0 3 14

abbrev s20 : Situation
s20 = next s14 1 3 20

-- no tick before the point that the Clock is armed for
none_before : (t b armed : ℕ) → b ≤ armed → NoneBetween t b (Once armed ∷ Never ∷ [])
none_before t b armed before point later = (λ x. let e : point ≡ armed = x in omega (arith, e, before), (λ x. absurd x, tt))

-- the step to a tick
to_tick : (t b : ℕ) → t < b → b ≤ 20 → NoGridBetween 10 t b → IsBound (plan_by 10 100) (Once b ∷ Never ∷ []) [] t b
to_tick t b later stop grid = bound_by 10 100 t b (Once b ∷ Never ∷ []) later stop (AtTick (0, Once b, refl, refl)) (none_before t b b (omega arith)) grid

pub trace : IsTrace row.pulsed_run row.pulsed_instants Stop 20
trace = Runs w (initially_by row.pulsed_run w refl (refl, (refl, tt))) refl
    (Further s0 (row.values 0 0) _ Stop 20 s2 _ (solves_by row.pulsed_run s0 (row.values 0 0) refl (inr (λ e. zero_is_2 e, refl), (refl, tt)))
    (departs_by row.pulsed_run (after s0 0 0) 2 (omega arith) (to_tick 0 2 (omega arith) (omega arith) (λ k later. omega (arith, later))) refl refl refl refl) refl
    (Further s2 (row.values 1 0) _ Stop 20 s5 _ (solves_by row.pulsed_run s2 (row.values 1 0) refl (inl (refl, refl), (refl, tt)))
    (departs_by row.pulsed_run (after s2 1 0) 5 (omega arith) (to_tick 2 5 (omega arith) (omega arith) (λ k later. omega (arith, later))) refl refl refl refl) refl
    (Further s5 (row.values 1 1) _ Stop 20 s9 _ (solves_by row.pulsed_run s5 (row.values 1 1) refl (inl (refl, refl), (refl, tt)))
    (departs_by row.pulsed_run (after s5 1 1) 9 (omega arith) (to_tick 5 9 (omega arith) (omega arith) (λ k later. omega (arith, later))) refl refl refl refl) refl
    (Further s9 (row.values 1 2) _ Stop 20 s10 _ (solves_by row.pulsed_run s9 (row.values 1 2) refl (inl (refl, refl), (refl, tt)))
    (departs_by row.pulsed_run (after s9 1 2) 10 (omega arith) (bound_by 10 100 9 10 (Once 14 ∷ Never ∷ []) (omega arith) (omega arith) (OnGrid (1, refl)) (none_before 9 10 14 (omega arith)) (λ k later. omega (arith, later))) refl refl refl refl) refl
    (Further s10 (row.values 0 3) _ Stop 20 s14 _ (solves_by row.pulsed_run s10 (row.values 0 3) refl (inr (λ e. ten_is_14 e, refl), (refl, tt)))
    (departs_by row.pulsed_run (after s10 0 3) 14 (omega arith) (to_tick 10 14 (omega arith) (omega arith) (λ k later. omega (arith, later))) refl refl refl refl) refl
    (Further s14 (row.values 1 3) _ Stop 20 s20 _ (solves_by row.pulsed_run s14 (row.values 1 3) refl (inl (refl, refl), (refl, tt)))
    (departs_by row.pulsed_run (after s14 1 3) 20 (omega arith) (to_tick 14 20 (omega arith) (omega arith) (λ k later. omega (arith, later))) refl refl refl refl) refl
    (Last s20 (row.values 1 4) _ Stop 20 (solves_by row.pulsed_run s20 (row.values 1 4) refl (inl (refl, refl), (refl, tt))) (AtStop _ refl refl) refl)))))))
  where
    zero_is_2 : ◌≡◌ {A = ℕ} 0 2 → ⊥
    zero_is_2 e = omega (arith, e)

    ten_is_14 : ◌≡◌ {A = ℕ} 10 14 → ⊥
    ten_is_14 e = omega (arith, e)
