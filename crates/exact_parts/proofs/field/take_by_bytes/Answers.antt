use Rattle.std.proofs.Common.{◌≡◌, ℕ, ◌-◌, ◌+◌, ◌*◌, ◌<◌, ◌^◌, sym, subst, arith, take}
use Rattle.exact_parts.specs.Field.{Stands, number, worth}
use Rattle.exact_parts.proofs.FieldLemmas.{are_bytes, number_more, number_small, field_breaks, field_needs, field_got}
use Rattle.exact_parts.proofs.field.take_by_bytes.Goals as goal

pub returns-then-not-stands : goal.returns-then-not-stands
returns-then-not-stands c =
    let a = c.args in
    let l = c.loop-place in
    let in_bytes = c.loop-place-test.true in
    let fits = are_bytes a.bytes.now (λ i. omega (arith, c.type_inv.bytes i)) in
    let more = number_more a.bytes.now l.place (omega (arith, c.min-place-end.ensures)) in
    let is : l.prefix * 256 + c.from.result ≡ number 0 (take (l.place + 1) a.bytes.now) = omega (arith, more, l.invariant.prefix, c.from.ensures) in
    field_breaks a.size a.spans a.bytes.now l.place c.requires.sane (omega (arith, c.min-place-end.ensures)) (omega (arith, c.min-place-end.ensures)) fits
    (subst (λ (v : ℕ). Stands (worth (a.size - l.place)) a.spans v) l.invariant.prefix l.invariant.stands)
    (λ s. absurd (cc (c.stands.ensures.no (subst (λ (v : ℕ). Stands (worth (a.size - 1 - l.place)) a.spans v) (sym is) s), c.if-not-stands.true)))

pub returns-then-bytes-size : goal.returns-then-bytes-size
returns-then-bytes-size c =
    let a = c.args in
    let l = c.loop-place in
    field_needs a.size a.spans a.bytes.now l.place l.prefix c.requires.sane c.if-bytes-size.true (omega (arith, c.loop-place-test.false, c.min-place-end.ensures, c.if-bytes-size.true)) (omega (arith, l.auto.place-end, c.min-place-end.ensures))
    (are_bytes a.bytes.now (λ i. omega (arith, c.type_inv.bytes i))) l.invariant.prefix l.invariant.stands

pub returns-else-bytes-size : goal.returns-else-bytes-size
returns-else-bytes-size c =
    let a = c.args in
    let l = c.loop-place in
    field_got a.size a.spans a.bytes.now l.place l.prefix c.if-bytes-size.false (omega (arith, c.loop-place-test.false, l.auto.place-end, c.min-place-end.ensures, c.if-bytes-size.false))
    (are_bytes a.bytes.now (λ i. omega (arith, c.type_inv.bytes i))) l.invariant.prefix l.invariant.stands

pub overflow_mul-prefix : goal.overflow_mul-prefix
overflow_mul-prefix c =
    let l = c.loop-place in
    let small : l.prefix < 2 ^ 56 = omega (arith, l.invariant.prefix, number_small c.args.bytes.now l.place (omega (arith, c.min-place-end.ensures, c.requires.few)) (are_bytes c.args.bytes.now (λ i. omega (arith, c.type_inv.bytes i)))) in
    omega (arith, small)

pub overflow_add-prefix : goal.overflow_add-prefix
overflow_add-prefix c =
    let l = c.loop-place in
    let small : l.prefix < 2 ^ 56 = omega (arith, l.invariant.prefix, number_small c.args.bytes.now l.place (omega (arith, c.min-place-end.ensures, c.requires.few)) (are_bytes c.args.bytes.now (λ i. omega (arith, c.type_inv.bytes i)))) in
    omega (arith, small, c.from.ensures, c.type_inv.bytes l.place)
