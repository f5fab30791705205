use Rattle.std.proofs.Common.{◌≡◌, ◌-◌, ◌/◌, length, arith, ap, sym, ◌∙◌, get_or}
use Rattle.tick_schedule.specs.HeapOrder.{key_at, IsBelow}
use Rattle.tick_schedule.proofs.SiftLemmas.{one_more_climb, climbed, up_step}
use Rattle.tick_schedule.proofs.sift.sift_up.Goals as goal

pub returns-then-entry-moved-clause-cost : goal.returns-then-entry-moved-clause-cost
returns-then-entry-moved-clause-cost g c =
    let steps = c.read-entry.ensures.cost in
    climbed 1 (length c.args.points.now) c.args.steps.now c.read-entry.new.steps
    (one_more_climb 1 (length c.args.points.now) c.loop-hole.hole 0 c.args.steps.now c.loop-hole.steps c.read-entry.new.steps
    c.loop-hole.invariant.turns (omega arith) (omega arith))

pub loop-hole-preserved : goal.loop-hole-preserved
loop-hole-preserved g c =
    let points = c.args.points.now in
    let above = (c.loop-hole.hole - 1) / 2 in
    let steps = c.read-entry.ensures.cost in
    let below : IsBelow above c.loop-hole.hole = record { low = omega arith; high = omega arith } in
    let moved : key_at points c.loop-hole.order c.loop-hole.hole ≡ c.args.moved.point =
    ap (λ x. get_or points x 0) c.loop-hole.invariant.clock ∙ c.requires.point in
    record {
      placed = rw (← c.loop-hole.invariant.placed.order_len) c.exchange.ensures.placed;
      hole = omega arith;
      clock = c.exchange.ensures.at_a;
      ordered = up_step (length points) above c.loop-hole.hole
          (key_at points c.loop-hole.order) (key_at points c.exchange.new.order)
          below c.loop-hole.invariant.ordered c.loop-hole.invariant.hole
          (let is = c.read-entry.ensures.point in omega arith)
          (ap (λ x. get_or points x 0) (c.exchange.ensures.at_a ∙ sym c.loop-hole.invariant.clock))
          (ap (λ x. get_or points x 0) (c.exchange.ensures.at_b ∙ c.read-entry.ensures.clock))
          (λ i na nh. ap (λ x. get_or points x 0) (c.exchange.ensures.others i na nh));
      turns = one_more_climb 1 (length points) c.loop-hole.hole above c.args.steps.now c.loop-hole.steps c.read-entry.new.steps
          c.loop-hole.invariant.turns (omega arith) (omega arith);
    }
