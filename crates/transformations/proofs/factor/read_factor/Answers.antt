use Rattle.std.proofs.Common.{arith, Some}
use Rattle.std.proofs.lemmas.Bool.{both_ways}
use Rattle.std.proofs.lemmas.Str.Pattern.{split_parts}
use Rattle.transformations.proofs.FactorLemmas.{cut_none, cut_some, factor_cut}
use Rattle.transformations.proofs.factor.read_factor.Goals as goal

pub returns-then-are_zeros-clause-value : goal.returns-then-are_zeros-clause-value
returns-then-are_zeros-clause-value c =
    let parts = split_parts 46 c.args.text.now (Some (c.in-Some.whole, c.in-Some.zeros)) c.in-Some.ensures.cases (omega arith) in
    factor_cut c.args.text.now c.in-Some.whole.now c.in-Some.zeros.now c.read_unmarked.result parts.0 (c.are_zeros.ensures.0 c.if-are_zeros.true) c.read_unmarked.ensures.unmarked c.read_unmarked.ensures.value

pub returns-then-are_zeros-clause-exact : goal.returns-then-are_zeros-clause-exact
returns-then-are_zeros-clause-exact c = λ value is.
    let cut = cut_some c.args.text.now value (c.in-Some.whole, c.in-Some.zeros) c.in-Some.ensures.cases is in
    c.read_unmarked.ensures.exact value cut.plain cut.reads

pub returns-else-are_zeros-clause-exact : goal.returns-else-are_zeros-clause-exact
returns-else-are_zeros-clause-exact c = λ value is.
    let cut = cut_some c.args.text.now value (c.in-Some.whole, c.in-Some.zeros) c.in-Some.ensures.cases is in
    absurd (both_ways c.are_zeros.result c.if-are_zeros.false (c.are_zeros.ensures.1 cut.are))

pub returns-in-None-clause-exact : goal.returns-in-None-clause-exact
returns-in-None-clause-exact c = λ value is.
    let cut = cut_none c.args.text.now value c.in-None.ensures.cases is in
    c.read_unmarked-in-None.ensures.exact value cut.0 cut.1
