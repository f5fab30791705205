-- Slots shared out among groups.
use Rattle.std.proofs.Common.{◌≡◌, ◌∙◌, ◌<◌, ◌≤◌, ◌-◌, ◌*◌, ◌+◌, ◌/◌, ◌%◌, ℕ, ap, arith, sym}
use Rattle.std.proofs.Math.Nat.{add-mul, div-add-mod, mul_comm}
use Rattle.parallel_step.specs.Groups.{IsEvenShare}

parts : (size left front rest more slots : ℕ) → slots ≡ (front + rest) * size + left → more ≤ left → left ≤ more + rest → IsEvenShare size rest (slots - (size * front + more))
parts size left front rest more slots is least most =
    let split = add-mul front rest size in
    let at_prefix = mul_comm size front in
    let at_rest = mul_comm size rest in
    let one_more = add-mul size 1 rest in
    (omega (arith, is, split, at_prefix, at_rest, least), omega (arith, is, split, at_prefix, at_rest, one_more, most))

-- what is left after the first groups, of which `more` have one slot more
pub back_share : (slots groups front more : ℕ) → front < groups → more ≤ slots % groups → slots % groups ≤ more + (groups - front)
    → IsEvenShare (slots / groups) (groups - front) (slots - (slots / groups * front + more))
back_share slots groups front more h least most =
    let both : groups ≡ front + (groups - front) = omega (arith, h) in
    let whole = sym (div-add-mod slots groups) ∙ ap (λ (n : ℕ). n * (slots / groups) + slots % groups) both in
    parts (slots / groups) (slots % groups) front (groups - front) more slots whole least most
