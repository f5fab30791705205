use Rattle.std.proofs.Common.{arith}
use Rattle.fmu_peer.proofs.OrderLemmas.{one_closed, all_closed, within_map, length_is, count_is_all}
use Rattle.fmu_peer.proofs.slot.close_all.Goals as goal

pub loop-place-preserved : goal.loop-place-preserved
loop-place-preserved g c = one_closed _ _ _ c.loop-place.place c.loop-place.invariant c.close_at.ensures (within_map _ c.loop-place.slots c.loop-place.place (omega arith))

pub returns : goal.returns
returns g c = all_closed _ _ c.loop-place.place (count_is_all _ c.args.slots.now c.loop-place.place (omega arith)) (length_is _ c.loop-place.slots c.args.slots.now c.loop-place.auto.slots) c.loop-place.invariant
