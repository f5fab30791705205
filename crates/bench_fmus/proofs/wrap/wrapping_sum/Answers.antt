use Rattle.std.proofs.Common.{◌≡◌, ◌+ℤ◌, arith, to_z, of_z}
use Rattle.std.specs.Int.{w128}
use Rattle.std.proofs.lemmas.Int.{ints}
use Rattle.bench_fmus.specs.Wrapping.{wrapped_int64}
use Rattle.bench_fmus.proofs.WrapLemmas.{wrapped_int64_by}
use Rattle.bench_fmus.proofs.wrap.wrapping_sum.Goals as goal

pub returns : goal.returns
returns c =
    let part = c.wrap_between-b.result in
    let again = to_z w128 (of_z w128 c.from.result) +ℤ to_z w128 (of_z w128 part) in
    let low = c.wrap_between.ensures.low in
    let high = c.wrap_between.ensures.high in
    let is : c.wrap_between.result ≡ wrapped_int64 (c.args.a +ℤ c.args.b) =
    wrapped_int64_by c.args.a c.args.b part (to_z w128 (of_z w128 c.args.b)) c.wrap_between.result (to_z w128 (of_z w128 again))
    c.wrap_between-b.ensures.value c.wrap_between.ensures.value (omega (arith, ints)) (omega (arith, ints, c.from.ensures)) in
    omega (arith, ints)
