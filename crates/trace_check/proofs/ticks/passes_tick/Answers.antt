use Rattle.std.proofs.Common.{◌↔◌, ℕ, sym, subst, Option, Some, IsTrue}
use Rattle.std.specs.Prelude.{nat_lt}
use Rattle.trace_check.specs.Ticks.{PassesTick}
use Rattle.trace_check.proofs.TickLemmas.{passes_of}
use Rattle.trace_check.proofs.ticks.passes_tick.Goals as goal

pub returns-in-Some : goal.returns-in-Some
returns-in-Some c =
    let P : Option (ℕ × ℕ) → Type 0 = λ last. IsTrue (nat_lt c.next_tick_after.result c.from.result) ↔ PassesTick c.args.start c.args.clock.interval c.args.clock.shift last c.args.t in
    let Q : ℕ → Type 0 = λ t. IsTrue (nat_lt c.next_tick_after.result t) ↔ PassesTick c.args.start c.args.clock.interval c.args.clock.shift (Some (c.in-Some.before, c.in-Some.field-0-1)) c.args.t in
    subst P (sym c.in-Some.is) (subst Q (sym c.from.ensures)
    (passes_of c.args.start c.args.clock.interval c.args.clock.shift c.in-Some.before c.in-Some.field-0-1 c.args.t c.next_tick_after.result c.next_tick_after.ensures.tick c.next_tick_after.ensures.after c.next_tick_after.ensures.least))
