use Rattle.std.proofs.Common.{◌*◌, ◌^◌, ◌-◌, Some, ap, ◌∙◌, arith}
use Rattle.clock_fraction.proofs.ShortestLemmas.{zero_only, shortest_parts, shortest_is, shortest_only, bounded}
use Rattle.clock_fraction.proofs.shortest.shortest_fraction.Goals as goal
use Rattle.clock_fraction.proofs.shortest.shortest_fraction.Goals.{then-number-gt-MOST_COUNTER-via-then-number-gt-MOST_COUNTER, then-number-gt-MOST_COUNTER-via-else-number-gt-MOST_COUNTER+then-raise-gt-MOST_PLACES, then-number-gt-MOST_COUNTER-via-else-number-gt-MOST_COUNTER+else-raise-gt-MOST_PLACES+then-places-gt-MOST_PLACES}

pub returns-then-number-gt-MOST_COUNTER-clause-exact : goal.returns-then-number-gt-MOST_COUNTER-clause-exact
returns-then-number-gt-MOST_COUNTER-clause-exact c = λ k fraction is.
    let within = bounded c.args.number c.args.up c.args.down k fraction (c.requires (omega arith)) is in
    let digits = within.digits in
    let raise = within.raise in
    let places = within.places in
    elim c.then-number-gt-MOST_COUNTER.branch [
      | then-number-gt-MOST_COUNTER-via-then-number-gt-MOST_COUNTER w ↦ absurd (omega arith)
      | then-number-gt-MOST_COUNTER-via-else-number-gt-MOST_COUNTER+then-raise-gt-MOST_PLACES w ↦ absurd (omega (arith, c.saturating_sub-raise.ensures))
      | then-number-gt-MOST_COUNTER-via-else-number-gt-MOST_COUNTER+else-raise-gt-MOST_PLACES+then-places-gt-MOST_PLACES w ↦ absurd (omega (arith, c.saturating_sub-places.ensures))
    ]

pub returns-then-counter-gt-MOST_COUNTER-clause-exact : goal.returns-then-counter-gt-MOST_COUNTER-clause-exact
returns-then-counter-gt-MOST_COUNTER-clause-exact c = λ k fraction is.
    let parts = shortest_parts c.args.number c.args.up c.args.down k fraction (c.requires (omega arith)) is in
    let counts = parts.counts in
    let power = ap (λ x. c.args.number * x) (c.power_of_ten.ensures.power ∙ ap (λ i. 10 ^ i) c.saturating_sub-raise.ensures) in
    let small = is.small in
    absurd (omega arith)

pub returns-clause-value : goal.returns-clause-value
returns-clause-value c =
    (c.args.down - c.args.up, shortest_is c.args.number c.args.up c.args.down _ (c.requires (omega arith)) (ap (λ x. c.args.number * x) (c.power_of_ten.ensures.power ∙ ap (λ i. 10 ^ i) c.saturating_sub-raise.ensures)) (c.power_of_ten-2.ensures.power ∙ ap (λ i. 10 ^ i) c.saturating_sub-places.ensures) (omega (arith, c.saturating_sub-places.ensures)) (omega arith))

pub returns-clause-exact : goal.returns-clause-exact
returns-clause-exact c = λ k fraction is.
    ap Some (shortest_only c.args.number c.args.up c.args.down k _ fraction (c.requires (omega arith)) (ap (λ x. c.args.number * x) (c.power_of_ten.ensures.power ∙ ap (λ i. 10 ^ i) c.saturating_sub-raise.ensures)) (c.power_of_ten-2.ensures.power ∙ ap (λ i. 10 ^ i) c.saturating_sub-places.ensures) is)

pub returns-then-number-eq0-clause-exact : goal.returns-then-number-eq0-clause-exact
returns-then-number-eq0-clause-exact c = λ k fraction is.
    ap Some (zero_only c.args.up c.args.down k fraction (rw c.if-number-eq0.true at is))
