use Rattle.std.proofs.Common.{◌<◌, refl, sym, ◌∙◌, subst, arith}
use Rattle.std.specs.List.{All}
use Rattle.std.proofs.lemmas.Bool.{false≢true}
use Rattle.dependency_order.proofs.ListLemmas.{list_below, below_next, below_all}
use Rattle.dependency_order.proofs.lists.Lists.are_below.Goals as goal

pub returns-then-not-all_below : goal.returns-then-not-all_below
returns-then-not-all_below c = (
  λ no. absurd (false≢true no),
  λ below.
      absurd (false≢true (sym c.if-not-all_below.true ∙ c.all_below.ensures.1 (subst (All (λ q. q < c.args.limit)) (sym c.row.ensures) (list_below c.args.self.now c.args.limit c.loop-at.at below)))),
)

pub loop-at-preserved : goal.loop-at-preserved
loop-at-preserved c = below_next c.args.self.now c.args.limit c.loop-at.at c.row.result.now c.row.ensures c.loop-at.invariant (c.all_below.ensures.0 c.if-not-all_below.false)

pub returns : goal.returns
returns c = (λ _. below_all c.args.self.now c.args.limit c.loop-at.at (omega arith) c.loop-at.invariant, λ _. refl)
