-- Whether a Clock ticks can be told.
use Rattle.std.proofs.Common.{◌≡◌, ℕ, true, false, refl, sym, ◌∙◌, ap, inl, inr, arith, ◌⊎◌, ◌+◌, ◌-◌, ◌*◌}
use Rattle.std.proofs.Math.Nat.{zero-mod, div-add-mod', add-mul-mod_self_right}
use Rattle.system_model.proofs.CallerLemmas.{true_false}
use Rattle.std.specs.Prelude.{◌%◌, ◌/◌, ◌==◌}
use Rattle.std.proofs.lemmas.Bool.{cases_lt}
use Rattle.std.proofs.lemmas.Bool.Decides.{nat_tests}
use Rattle.clock_fraction.specs.Ticks.{IsTick}
use Rattle.run_model.specs.Run.{Run, Situation, Timer, Never, Every, Once}
use Rattle.run_model.specs.Timers.{IsDue}
use Rattle.run_model.specs.Equations.{timer_of}
use Rattle.run_model.proofs.Solvable.{AreDecided}

-- a number is a multiple or it isn't
multiple : (d interval : ℕ) → ((k : ℕ) × (d ≡ k * interval)) ⊎ (((k : ℕ) × (d ≡ k * interval)) → ⊥)
multiple d interval =
    (elim (d % interval == 0) as (λ b. (d % interval == 0) ≡ b → ((k : ℕ) × (d ≡ k * interval)) ⊎ (((k : ℕ) × (d ≡ k * interval)) → ⊥)) [
      | true ↦ λ e. let rest : d % interval ≡ 0 = grind (arith, nat_tests) in
          let whole : d / interval * interval + d % interval ≡ d = div-add-mod' d interval in
          inl (d / interval, omega (arith, rest, whole))
      | false ↦ λ e. inr (λ h.
          let same : (0 + h.0 * interval) % interval ≡ 0 % interval = add-mul-mod_self_right 0 h.0 interval in
          let is : d ≡ 0 + h.0 * interval = omega (arith, h.1) in
          let rest : d % interval ≡ 0 = ap (λ x. x % interval) is ∙ same ∙ zero-mod interval in
          let yes_it_is : (d % interval == 0) ≡ true = grind (arith, nat_tests) in
          true_false (sym yes_it_is ∙ e))
    ]) refl

tick : (start shift interval t : ℕ) → IsTick start shift interval t ⊎ (IsTick start shift interval t → ⊥)
tick start shift interval t =
    (elim (cases_lt t (start + shift)) as (λ c. IsTick start shift interval t ⊎ (IsTick start shift interval t → ⊥)) [
      | inl early ↦ inr (λ h. let is : t ≡ start + shift + h.0 * interval = h.1 in omega (arith, early, is))
      | inr late ↦ (elim (multiple (t - (start + shift)) interval) as (λ c. IsTick start shift interval t ⊎ (IsTick start shift interval t → ⊥)) [
        | inl m ↦ inl (m.0, (let is : t - (start + shift) ≡ m.0 * interval = m.1 in omega (arith, late, is)))
        | inr never ↦ inr (λ h. never (h.0, (let is : t ≡ start + shift + h.0 * interval = h.1 in omega (arith, is))))
      ])
    ])

pub same_number : (a b : ℕ) → (a ≡ b) ⊎ (a ≡ b → ⊥)
same_number a b = (elim (a == b) as (λ c. (a == b) ≡ c → (a ≡ b) ⊎ (a ≡ b → ⊥)) [
  | true ↦ λ e. inl (let same : a ≡ b = grind (arith, nat_tests) in same)
  | false ↦ λ e. inr (λ same. let t : (a == b) ≡ true = grind (arith, nat_tests) in true_false (sym t ∙ e))
]) refl

due : (start : ℕ) (timer : Timer) (t n : ℕ) → IsDue start timer t n ⊎ (IsDue start timer t n → ⊥)
due start Never t n = inr (λ h. h)
due start (Once armed) t n = same_number t armed
due start (Every interval shift) t n =
    (elim (same_number n 0) as (λ c. ((n ≡ 0) × IsTick start shift interval t) ⊎ ((n ≡ 0) × IsTick start shift interval t → ⊥)) [
      | inr later ↦ inr (λ h. later h.0)
      | inl first ↦ (elim (tick start shift interval t) as (λ c. ((n ≡ 0) × IsTick start shift interval t) ⊎ ((n ≡ 0) × IsTick start shift interval t → ⊥)) [
        | inl ticks ↦ inl (first, ticks)
        | inr never ↦ inr (λ h. never h.1)
      ])
    ])

-- of each Clock it is known whether it ticks
pub decided : (r : Run) (s : Situation) → AreDecided r s
decided r s p = due r.plan.start (timer_of s.timers p) s.t s.n
