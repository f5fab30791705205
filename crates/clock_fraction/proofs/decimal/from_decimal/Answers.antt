use Rattle.clock_fraction.proofs.DigitLemmas.{AllDigits-prefix, AllDigits-back}
use Rattle.clock_fraction.proofs.decimal.from_decimal.Goals as goal

pub fraction_of-requires-clause-whole : goal.fraction_of-requires-clause-whole
fraction_of-requires-clause-whole c =
    AllDigits-prefix c.split_at_point.result.0.now c.split_at_point.result.1.now (c.is_decimal.ensures.0 c.if-is_decimal.true).0.1

pub fraction_of-requires-clause-places : goal.fraction_of-requires-clause-places
fraction_of-requires-clause-places c =
    AllDigits-back c.split_at_point.result.0.now c.split_at_point.result.1.now (c.is_decimal.ensures.0 c.if-is_decimal.true).0.1
