use Rattle.std.proofs.Common.{arith}
use Rattle.std.proofs.lemmas.Int.{ints}
use Rattle.bench_fmus.proofs.WrapLemmas.{wrapped_by}
use Rattle.bench_fmus.proofs.wrap.reduce_between.Goals as goal

pub returns-clause-value : goal.returns-clause-value
returns-clause-value c =
    wrapped_by c.args.least c.args.greatest c.args.value _ _ c.rem_euclid-rest.result _ c.rem_euclid.result _ c.requires.order
    c.rem_euclid-rest.ensures.value c.rem_euclid.ensures.value (omega (arith, ints)) (omega (arith, ints)) (omega (arith, ints)) (omega (arith, ints))
