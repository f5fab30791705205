use Rattle.std.proofs.Common.{ℕ, ◌≡◌, ◌<◌, List, Bool, false, IfNone, IfSome, get_or, subst}
use Rattle.tick_schedule.proofs.PendingLemmas.{first_of, none_of}
use Rattle.tick_schedule.proofs.pending.Pending.first.Goals as goal

pub returns-in-Some-clause-first : goal.returns-in-Some-clause-first
returns-in-Some-clause-first c =
    subst (λ (flags : List Bool). IfSome c.place_of.result (λ place. (other : ℕ) → other < place → get_or flags other false ≡ false)) c.self.view_is
    (first_of c.self.inside.heap c.in-Some.point c.self.invariant.1 c.self.invariant.0 c.in-Some.ensures.least c.place_of.result c.place_of.ensures)

pub returns-in-Some-clause-none : goal.returns-in-Some-clause-none
returns-in-Some-clause-none c =
    subst (λ (flags : List Bool). IfNone c.place_of.result ((place : ℕ) → get_or flags place false ≡ false)) c.self.view_is
    (none_of c.self.inside.heap c.in-Some.point c.self.invariant.1 c.self.invariant.0 c.in-Some.ensures.least c.place_of.result c.place_of.ensures)
