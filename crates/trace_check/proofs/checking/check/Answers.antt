use Rattle.std.proofs.Common.{◌≡◌, ◌+◌}
use Rattle.trace_check.proofs.TraceLemmas.{first_is, first_port_of}
use Rattle.trace_check.proofs.checking.check.Goals as goal

pub returns-in-Some-clause-no : goal.returns-in-Some-clause-no
returns-in-Some-clause-no c = λ line rule e.
    let at : c.in-Some.k + 2 ≡ line = cc in
    let same : 1 ≡ rule = cc in
    first_is c.args.system.now c.args.trace.now (c.in-Some.k + 2) 1 line rule at same
    (first_port_of c.args.system.now c.args.trace.now c.as_slice.result.now c.in-Some.k c.as_slice.ensures c.in-Some.ensures.within c.in-Some.ensures.strange c.in-Some.ensures.first)
