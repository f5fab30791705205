-- What is drawn for components is such that their system is sound: each feeder stands before, and parameters are small.
use Rattle.std.proofs.Common.{◌≡◌, ℕ, zero, suc, ◌%◌, ◌<◌, ◌≤◌, true, false, refl, arith}
use Rattle.std.specs.Prelude.{Some, None, ◌==◌, if◌then◌else◌}
use Rattle.std.proofs.lemmas.Option.{none-some as none_some, same_Some}
use Rattle.system_model.proofs.CallerLemmas.{true_false}
use Rattle.generated_system.specs.declared.drawn.DrawnMachine.{DrawnMachine}
use Rattle.generated_system.specs.declared.drawn.DrawnMachine.TheVariants.{Counter, Gain, Alarm}
use Rattle.generated_system.specs.Draws.{draw, drawn_for, drawn_from, feeder_drawn, machine_drawn, number_before, parameter_drawn}
use Rattle.generated_system.proofs.SystemSound.{AreDrawn}

feeder_below : (i : ℕ) (machine : DrawnMachine) (s j : ℕ) → feeder_drawn i machine s ≡ Some j → j < i
feeder_below i Counter s j e = absurd (none_some _ e)
feeder_below i Alarm s j e = absurd (none_some _ e)
feeder_below i Gain s j e =
    (elim (i == 0) as (λ b. (i == 0) ≡ b → (if b then None else Some (s % i)) ≡ Some j → j < i) [
      | true ↦ λ t h. absurd (none_some _ h)
      | false ↦ λ t h.
          let is : s % i ≡ j = same_Some _ _ h in
          let above : 0 < i = positive i t in
          let less : s % i < i = omega (arith, above) in
          omega (arith, is, less)
    ]) refl e
  where
    positive : (n : ℕ) → (n == 0) ≡ false → 0 < n
    positive zero t = absurd (true_false t)
    positive (suc n) t = omega arith

parameter_small : (machine : DrawnMachine) (e : ℕ) → parameter_drawn machine e ≤ 85
parameter_small Counter e = let less : e % 17 < 17 = omega arith in omega (arith, less)
parameter_small Gain e = let less : e % 17 < 17 = omega arith in omega (arith, less)
parameter_small Alarm e = let less : e % 17 < 17 = omega arith in omega (arith, less)

feeder_of : (x i j : ℕ) → (drawn_from x i).feeder ≡ Some j → j < i
unfolding drawn_from
feeder_of x i j e = feeder_below i (machine_drawn (draw x 0)) (draw x 2) j e

parameter_of : (x i : ℕ) → (drawn_from x i).parameter ≤ 85
unfolding drawn_from
parameter_of x i = parameter_small (machine_drawn (draw x 0)) (draw x 1)

pub are_drawn : (seed : ℕ) → AreDrawn (drawn_for seed)
are_drawn seed = record {
  feeders = λ i j e. feeder_of (number_before seed i) i j e;
  parameters = λ i. parameter_of (number_before seed i) i;
}
