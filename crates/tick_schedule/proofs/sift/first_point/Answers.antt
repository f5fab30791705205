use Rattle.std.proofs.Common.{arith}
use Rattle.tick_schedule.proofs.SiftLemmas.{least_point}
use Rattle.tick_schedule.proofs.sift.first_point.Goals as goal

pub returns-clause-least : goal.returns-clause-least
returns-clause-least g c = λ k d l.
    let least = least_point _ _ _ c.requires.heap k d l in
    let is = c.read.ensures.point in
    omega arith
