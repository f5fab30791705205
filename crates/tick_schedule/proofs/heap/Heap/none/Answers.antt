use Rattle.tick_schedule.specs.Points.{past}
use Rattle.tick_schedule.proofs.HeapLemmas.{level}
use Rattle.tick_schedule.proofs.heap.Heap.none.Goals as goal

pub invariant_of-result : goal.invariant_of-result
invariant_of-result c = (
  level c.args.count past c.in_ok-all.field-0 c.in_ok-in_order.field-0.items c.in_ok-in_order-2.field-0.items
      c.in_ok-all.ensures.same c.in_ok-in_order.ensures c.in_ok-in_order-2.ensures,
  c.in_ok-all.ensures.few,
)
