use Rattle.std.proofs.Common.{◌≡◌, ◌≤◌, ◌^◌, ◌-◌, ◌+ℤ◌, ◌*ℤ◌, arith, to_z, of_z, ap, ◌∙◌, FitsSigned, mul-le-mul}
use Rattle.std.specs.Int.{w64, w128}
use Rattle.std.specs.Int.RustNames.{unsigned_abs}
use Rattle.std.proofs.lemmas.Int.{ints, to_z-of_z, fits_signed_mul, unsigned_abs-mul}
use Rattle.parameter_values.proofs.LinearLemmas.{sum_within, low_of_fits, high_of_fits}
use Rattle.parameter_values.proofs.linear.scale.Goals as goal

pub returns : goal.returns
returns c =
    let a = c.args.factor in
    let x = c.args.value in
    let b = c.args.offset in
    let fa = c.ranges.factor in
    let fb = c.ranges.offset in
    let low = c.requires.least in
    let high = c.requires.greatest in
    let ea : c.from.result ≡ a = c.from.ensures ∙ to_z-of_z w64 a fa in
    let eb : c.from-2.result ≡ b = c.from-2.ensures ∙ to_z-of_z w64 b fb in
    let ba : unsigned_abs a ≤ 2 ^ 63 = omega (arith, ints, fa) in
    let bx : unsigned_abs x ≤ 2 ^ 64 - 1 = omega (arith, ints, low, high) in
    let fits : FitsSigned w128 (a *ℤ x) = fits_signed_mul w128 a x (2 ^ 63) (2 ^ 64 - 1) ba bx (omega arith) in
    let bound : unsigned_abs (a *ℤ x) ≤ 2 ^ 127 - 2 ^ 63 = omega (arith, unsigned_abs-mul a x, mul-le-mul ba bx) in
    let sum_fits : FitsSigned w128 (a *ℤ x +ℤ b) = sum_within (a *ℤ x) b bound (low_of_fits b fb) (high_of_fits b fb) in
    let ta = to_z w128 (of_z w128 c.from.result) in
    let tx = to_z w128 (of_z w128 x) in
    let tb = to_z w128 (of_z w128 c.from-2.result) in
    let ra : ta ≡ a = to_z-of_z w128 c.from.result (record { sfits = c.from.type_inv }) ∙ ea in
    let rx : tx ≡ x = to_z-of_z w128 x c.ranges.value in
    let rb : tb ≡ b = to_z-of_z w128 c.from-2.result (record { sfits = c.from-2.type_inv }) ∙ eb in
    let product : to_z w128 (of_z w128 (ta *ℤ tx)) ≡ a *ℤ x = ap (λ z. to_z w128 (of_z w128 (z *ℤ tx))) ra ∙ ap (λ z. to_z w128 (of_z w128 (a *ℤ z))) rx ∙ to_z-of_z w128 (a *ℤ x) fits in
    ap (λ z. to_z w128 (of_z w128 (z +ℤ tb))) product ∙ ap (λ z. to_z w128 (of_z w128 (a *ℤ x +ℤ z))) rb ∙ to_z-of_z w128 (a *ℤ x +ℤ b) sum_fits
