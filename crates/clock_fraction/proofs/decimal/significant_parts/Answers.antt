use Rattle.std.proofs.Common.{◌<◌, arith}
use Rattle.clock_fraction.proofs.DigitLemmas.{zeros_of_both, zeros_of_places, last-of_prefix, last-nonzero}
use Rattle.clock_fraction.proofs.decimal.significant_parts.Goals as goal

pub returns-then-kept-eq0-clause-zeros : goal.returns-then-kept-eq0-clause-zeros
returns-then-kept-eq0-clause-zeros c =
    zeros_of_both c.args.whole.now c.args.places.now c.significant_len.result (rw c.if-kept-eq0.true at c.significant_len-kept.ensures.zeros) c.significant_len.ensures.zeros

pub returns-then-kept-eq0-clause-last : goal.returns-then-kept-eq0-clause-last
returns-then-kept-eq0-clause-last c =
    last-of_prefix c.args.whole.now c.significant_len.result c.requires.whole c.significant_len.ensures.within c.significant_len.ensures.last

pub returns-else-kept-eq0-clause-zeros : goal.returns-else-kept-eq0-clause-zeros
returns-else-kept-eq0-clause-zeros c =
    zeros_of_places c.args.whole.now c.args.places.now c.significant_len-kept.result c.significant_len-kept.ensures.zeros

pub returns-else-kept-eq0-clause-last : goal.returns-else-kept-eq0-clause-last
returns-else-kept-eq0-clause-last c = λ some.
    let above : 0 < c.significant_len-kept.result = omega arith in
    last-nonzero _ c.args.places.now c.significant_len-kept.result c.requires.places above c.significant_len-kept.ensures.within (c.significant_len-kept.ensures.last above)
