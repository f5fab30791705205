use Rattle.std.proofs.Common.{rules, ◌≡◌}
use Rattle.parallel_step.proofs.Pairs.{EachPair-append}
use Rattle.parallel_step.proofs.rounds.+fn-work_in_groups-join_mut+arg2+fn-work_in_groups-join_mut+arg3+work_in_groups.Goals as goal

pub returns : goal.returns
returns g t c =
    let front : c.front-1.given.0 ≡ c.join_mut.new.f.1.now = search rules in
    let back : c.back-1.given.0 ≡ c.join_mut.new.g.1.now = search rules in
    rw (c.split_at_mut-front.ensures.value, front, back) (EachPair-append _ _ _ _ _ c.join_mut.ensures.0.met.1 c.join_mut.ensures.1.met.1)
