use Rattle.std.proofs.Common.{◌≡◌, ◌≤◌, ◌^◌, ℤ, ◌*ℤ◌, ap, ap₂, ◌∙◌, arith, to_z, of_z}
use Rattle.std.specs.Prelude.{unsigned_abs}
use Rattle.std.specs.Int.{w64, w128}
use Rattle.std.proofs.lemmas.Int.{ints, fits_signed_mul, to_z-of_z}
use Rattle.bench_fmus.specs.Wrapping.{wrapped_int64}
use Rattle.bench_fmus.proofs.WrapLemmas.{wrapped_product_by}
use Rattle.bench_fmus.proofs.wrap.wrapping_product.Goals as goal

pub returns : goal.returns
returns c =
    let first = c.from-first.result in
    let second = c.from-second.result in
    let low : first ≡ c.wrapping_value.result = omega (arith, ints, c.from-first.ensures) in
    let high : second ≡ c.wrapping_value-2.result = omega (arith, ints, c.from-second.ensures) in
    let a_is : to_z w128 (of_z w128 c.args.a) ≡ c.args.a = omega (arith, ints) in
    let b_is : to_z w128 (of_z w128 c.args.b) ≡ c.args.b = omega (arith, ints) in
    let first_is : to_z w128 (of_z w128 first) ≡ first = omega (arith, ints) in
    let second_is : to_z w128 (of_z w128 second) ≡ second = omega (arith, ints) in
    let small : unsigned_abs first ≤ 2 ^ 63 = omega (arith, ints, low, c.wrapping_value.type_inv) in
    let small_too : unsigned_abs second ≤ 2 ^ 63 = omega (arith, ints, high, c.wrapping_value-2.type_inv) in
    let fits = fits_signed_mul w128 first second (2 ^ 63) (2 ^ 63) small small_too (omega arith) in
    let product_is : to_z w128 (of_z w128 (to_z w128 (of_z w128 first) *ℤ to_z w128 (of_z w128 second))) ≡ first *ℤ second =
    ap (λ (x : ℤ). to_z w128 (of_z w128 x)) (ap₂ (λ (x y : ℤ). x *ℤ y) first_is second_is) ∙ to_z-of_z w128 (first *ℤ second) fits in
    let back : to_z w64 (of_z w64 c.wrapping_value-3.result) ≡ c.wrapping_value-3.result = omega (arith, ints) in
    back
    ∙ wrapped_product_by c.args.a c.args.b first second c.wrapping_value-3.result _
    (low ∙ c.wrapping_value.ensures ∙ ap (λ (x : ℤ). wrapped_int64 x) a_is) (high ∙ c.wrapping_value-2.ensures ∙ ap (λ (x : ℤ). wrapped_int64 x) b_is)
    product_is c.wrapping_value-3.ensures
