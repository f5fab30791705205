use Rattle.std.proofs.Common.{◌<◌, ◌^◌, arith}
use Rattle.exact_parts.proofs.FieldLemmas.{are_bytes, number_small}
use Rattle.exact_parts.proofs.field.number_of.Goals as goal

pub overflow_mul-value : goal.overflow_mul-value
overflow_mul-value c =
    let l = c.loop-place in
    let small : l.value < 2 ^ 56 = omega (arith, l.invariant.value, number_small c.args.bytes.now l.place (omega (arith, c.loop-place-test.true, c.requires.few)) (are_bytes c.args.bytes.now (λ i. omega (arith, c.type_inv.bytes i)))) in
    omega (arith, small)

pub overflow_add-value : goal.overflow_add-value
overflow_add-value c =
    let l = c.loop-place in
    let small : l.value < 2 ^ 56 = omega (arith, l.invariant.value, number_small c.args.bytes.now l.place (omega (arith, c.loop-place-test.true, c.requires.few)) (are_bytes c.args.bytes.now (λ i. omega (arith, c.type_inv.bytes i)))) in
    omega (arith, small, c.from.ensures, c.type_inv.bytes l.place)
