use Rattle.std.proofs.Common.{arith}
use Rattle.exact_parts.proofs.FieldLemmas.{are_bytes, field_at_once}
use Rattle.exact_parts.proofs.field.take_number.Goals as goal

pub returns-then-is_in : goal.returns-then-is_in
returns-then-is_in c =
    let a = c.args in
    field_at_once a.size a.spans a.bytes.now c.number_of-value.result c.if-size-bytes.true (are_bytes a.bytes.now (λ i. omega (arith, c.type_inv.bytes i))) c.number_of-value.ensures
    (c.is_in.ensures.yes c.if-is_in.true)
