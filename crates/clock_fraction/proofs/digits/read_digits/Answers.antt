use Rattle.std.proofs.Common.{arith}
use Rattle.clock_fraction.proofs.DigitLemmas.{digit_above, digit_value-at, digits_value_after-more}
use Rattle.clock_fraction.proofs.digits.read_digits.Goals as goal

pub overflow_sub-digit : goal.overflow_sub-digit
overflow_sub-digit c = digit_above c.args.digits.now c.loop-digit.digit-index c.requires.digits (omega arith)

pub loop-digit-preserved : goal.loop-digit-preserved
loop-digit-preserved c =
    let value = digit_value-at c.args.digits.now c.loop-digit.digit-index c.requires.digits (omega arith) in
    let more = digits_value_after-more c.args.number c.args.digits.now c.loop-digit.digit-index (omega arith) in
    omega (arith, c.min-number.ensures, c.from.ensures)
