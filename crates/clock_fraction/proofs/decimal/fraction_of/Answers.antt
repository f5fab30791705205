use Rattle.std.proofs.Common.{arith}
use Rattle.clock_fraction.proofs.DigitLemmas.{AllDigits-take}
use Rattle.clock_fraction.proofs.CutLemmas.{cut_lasts, minus_found, minus_to_read, plus_found, plus_to_read}
use Rattle.clock_fraction.proofs.ReadLemmas.{is_read}
use Rattle.clock_fraction.proofs.decimal.fraction_of.Goals as goal

pub read_digits-requires-clause-digits : goal.read_digits-requires-clause-digits
read_digits-requires-clause-digits c = AllDigits-take c.significant_parts-prefix.result.0 c.args.whole.now c.requires.whole

pub read_digits-number-requires-clause-digits : goal.read_digits-number-requires-clause-digits
read_digits-number-requires-clause-digits c = AllDigits-take c.significant_parts-prefix.result.1 c.args.places.now c.requires.places

pub shortest_fraction-requires : goal.shortest_fraction-requires
shortest_fraction-requires c =
    let parts = c.significant_parts-prefix in
    let read = is_read c.args.whole.now c.args.places.now c.args.power.now parts.result.0 parts.result.1 c.read_digits.result c.read_digits-number.result c.read_digits-tens.result parts.ensures.zeros parts.ensures.last c.read_digits.ensures c.read_digits-number.ensures c.read_digits-tens.ensures (omega arith) (omega arith) in
    cut_lasts _ _ read.lasts read.prefix_is

pub shortest_fraction-requires-else-has_minus : goal.shortest_fraction-requires-else-has_minus
shortest_fraction-requires-else-has_minus c =
    let parts = c.significant_parts-prefix in
    let read = is_read c.args.whole.now c.args.places.now c.args.power.now parts.result.0 parts.result.1 c.read_digits.result c.read_digits-number.result c.read_digits-tens.result parts.ensures.zeros parts.ensures.last c.read_digits.ensures c.read_digits-number.ensures c.read_digits-tens.ensures (omega arith) (omega arith) in
    cut_lasts _ _ read.lasts read.prefix_is

pub returns-then-has_minus-clause-value : goal.returns-then-has_minus-clause-value
returns-then-has_minus-clause-value c =
    let parts = c.significant_parts-prefix in
    let read = is_read c.args.whole.now c.args.places.now c.args.power.now parts.result.0 parts.result.1 c.read_digits.result c.read_digits-number.result c.read_digits-tens.result parts.ensures.zeros parts.ensures.last c.read_digits.ensures c.read_digits-number.ensures c.read_digits-tens.ensures (omega arith) (omega arith) in
    rw c.if-has_minus.true
    (minus_found _ _ _ _ _ _ _ read c.shortest_fraction.result c.shortest_fraction.ensures.value)

pub returns-then-has_minus-clause-exact : goal.returns-then-has_minus-clause-exact
returns-then-has_minus-clause-exact c =
    let parts = c.significant_parts-prefix in
    let read = is_read c.args.whole.now c.args.places.now c.args.power.now parts.result.0 parts.result.1 c.read_digits.result c.read_digits-number.result c.read_digits-tens.result parts.ensures.zeros parts.ensures.last c.read_digits.ensures c.read_digits-number.ensures c.read_digits-tens.ensures (omega arith) (omega arith) in
    rw c.if-has_minus.true
    (λ k fraction is. c.shortest_fraction.ensures.exact k fraction (minus_to_read _ _ _ _ _ _ _ k fraction read is))

pub returns-else-has_minus-clause-value : goal.returns-else-has_minus-clause-value
returns-else-has_minus-clause-value c =
    let parts = c.significant_parts-prefix in
    let read = is_read c.args.whole.now c.args.places.now c.args.power.now parts.result.0 parts.result.1 c.read_digits.result c.read_digits-number.result c.read_digits-tens.result parts.ensures.zeros parts.ensures.last c.read_digits.ensures c.read_digits-number.ensures c.read_digits-tens.ensures (omega arith) (omega arith) in
    rw c.if-has_minus.false
    (plus_found _ _ _ _ _ _ _ read c.shortest_fraction-else-has_minus.result c.shortest_fraction-else-has_minus.ensures.value)

pub returns-else-has_minus-clause-exact : goal.returns-else-has_minus-clause-exact
returns-else-has_minus-clause-exact c =
    let parts = c.significant_parts-prefix in
    let read = is_read c.args.whole.now c.args.places.now c.args.power.now parts.result.0 parts.result.1 c.read_digits.result c.read_digits-number.result c.read_digits-tens.result parts.ensures.zeros parts.ensures.last c.read_digits.ensures c.read_digits-number.ensures c.read_digits-tens.ensures (omega arith) (omega arith) in
    rw c.if-has_minus.false
    (λ k fraction is. c.shortest_fraction-else-has_minus.ensures.exact k fraction (plus_to_read _ _ _ _ _ _ _ k fraction read is))
