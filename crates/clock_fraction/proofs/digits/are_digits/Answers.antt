use Rattle.std.proofs.Common.{arith, rules}
use Rattle.std.proofs.lemmas.Str.Parse.{digit_at}
use Rattle.std.proofs.lemmas.Int.Digits.{digits_more}
use Rattle.std.proofs.lemmas.Bool.Decides.{nat_tests}
use Rattle.clock_fraction.proofs.digits.are_digits.Goals as goal

pub returns-then-not-is_ascii_digit : goal.returns-then-not-is_ascii_digit
returns-then-not-is_ascii_digit c =
    let value = c.if-not-is_ascii_digit.ensures.value in
    (λ h. search rules, λ digits. let range = digit_at c.args.bytes.now c.loop-byte.byte-index digits (omega arith) in absurd (grind (arith, nat_tests)))

pub loop-byte-preserved : goal.loop-byte-preserved
loop-byte-preserved c =
    digits_more 10 c.args.bytes.now c.loop-byte.byte-index (omega arith) c.loop-byte.invariant c.if-not-is_ascii_digit.ensures.bound
