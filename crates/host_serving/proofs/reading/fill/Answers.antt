use Rattle.host_serving.proofs.FrameLemmas.{filled_more}
use Rattle.host_serving.proofs.reading.fill.Goals as goal

pub loop-count-preserved : goal.loop-count-preserved
loop-count-preserved g c =
    filled_more _ _ _ c.loop-count.into c.take.new.into c.loop-count.count c.in_ok-taken.taken c.loop-count.invariant.0 c.loop-count.invariant.1 c.in_ok-taken.ensures.noted
