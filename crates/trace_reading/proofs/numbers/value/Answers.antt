use Rattle.std.proofs.Common.{arith, ◌≡◌, ℕ, ℤ, pos, negsuc, ◌+◌, ◌<◌, ◌^◌, List, [], ◌∷◌, decimal, sym, suc, ap, ◌∙◌, Some, Option}
use Rattle.std.specs.Fmt.{signed_decimal}
use Rattle.trace_reading.specs.Lines.{IsShort, Lacks}
use Rattle.trace_reading.proofs.LineLemmas.{lacks_decimal}
use Rattle.trace_reading.proofs.numbers.value.Goals as goal

begins_not : (xs ys : List ℕ) (byte : ℕ) → Lacks byte xs → xs ≡ byte ∷ ys → ⊥
begins_not [] ys byte lacks e = cc e
begins_not (x ∷ xs) ys byte lacks e = lacks.0 (cc e)

tail_is : (b : ℕ) (xs ys : List ℕ) → b ∷ xs ≡ b ∷ ys → xs ≡ ys
tail_is b xs ys e = cc e

after_minus : (digits : List ℕ) (result : Option ℤ) (v : ℤ) → ((n : ℕ) → n + 1 < 2 ^ 64 → digits ≡ decimal (n + 1) → result ≡ Some (negsuc n)) → IsShort v → 45 ∷ digits ≡ signed_decimal v → result ≡ Some v
after_minus digits result (pos n) exact short e = absurd (begins_not (decimal n) digits 45 (lacks_decimal 45 n (omega arith) short) (sym e))
after_minus digits result (negsuc n) exact short e =
    let same : n + 1 ≡ suc n = omega arith in
    exact n (omega (arith, short)) (tail_is 45 digits (decimal (n + 1)) (e ∙ ap (λ (m : ℕ). 45 ∷ decimal m) (sym same)))

pub returns-in-Some-clause-exact : goal.returns-in-Some-clause-exact
returns-in-Some-clause-exact c = λ v short e.
    after_minus c.in-Some.digits.now c.negative_number.result v c.negative_number.ensures.exact short (sym (c.in-Some.ensures.parts) ∙ e)
