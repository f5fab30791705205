use Rattle.std.proofs.Common.{◌≡◌, ◌+◌, length, arith, ap, sym, ◌∙◌, get_or}
use Rattle.tick_schedule.specs.HeapOrder.{key_at}
use Rattle.tick_schedule.proofs.SiftLemmas.{one_more_turn, down_step}
use Rattle.tick_schedule.proofs.sift.sift_down.Goals as goal

pub returns-then-moved-entry-clause-cost : goal.returns-then-moved-entry-clause-cost
returns-then-moved-entry-clause-cost g c =
    one_more_turn 2 (c.loop-hole.hole + 1) (length c.args.points.now) c.args.steps.now c.loop-hole.steps c.least_below-below.new.steps
    c.loop-hole.invariant.turns c.least_below-below.ensures.cost (omega arith)

pub loop-hole-preserved : goal.loop-hole-preserved
loop-hole-preserved g c =
    let points = c.args.points.now in
    let found = c.least_below-below.ensures in
    let moved : key_at points c.loop-hole.order c.loop-hole.hole ≡ c.args.moved.point =
    ap (λ x. get_or points x 0) c.loop-hole.invariant.clock ∙ c.requires.point in
    record {
      placed = rw (← c.loop-hole.invariant.placed.order_len) c.exchange.ensures.placed;
      hole = found.within;
      clock = c.exchange.ensures.at_b;
      ordered = down_step (length points) c.loop-hole.hole c.least_below-below.result.0
          (key_at points c.loop-hole.order) (key_at points c.exchange.new.order)
          found.below c.loop-hole.invariant.ordered found.within
          (λ j within under. let least = found.least j within under in let is = found.point in omega arith)
          (let is = found.point in omega arith)
          (ap (λ x. get_or points x 0) (c.exchange.ensures.at_a ∙ found.clock))
          (ap (λ x. get_or points x 0) (c.exchange.ensures.at_b ∙ sym c.loop-hole.invariant.clock))
          (λ i nh nc. ap (λ x. get_or points x 0) (c.exchange.ensures.others i nh nc));
      turns = one_more_turn 2 (c.loop-hole.hole + 1) (c.least_below-below.result.0 + 1) c.args.steps.now c.loop-hole.steps c.least_below-below.new.steps
          c.loop-hole.invariant.turns found.cost (let low = found.below.low in omega arith);
    }
