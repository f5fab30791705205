use Rattle.std.proofs.Common.{◌<◌, length, length-take, take, arith}
use Rattle.host_serving.proofs.ComingLemmas.{no_short_head}
use Rattle.host_serving.proofs.reading.calls_told.Goals as goal

pub returns-then-count-lt-HEAD-clause-none : goal.returns-then-count-lt-HEAD-clause-none
returns-then-count-lt-HEAD-clause-none c = λ calls h.
    let cut = length-take c.args.count c.args.head.now in
    let short : length (take c.args.count c.args.head.now) < 24 = omega (arith, cut) in
    no_short_head calls (take c.args.count c.args.head.now) short h
