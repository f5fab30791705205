use Rattle.std.proofs.Common.{ℕ, get_or, refl, arith, below_more}
use Rattle.std.proofs.lemmas.Bool.{false≢true, iff_false}
use Rattle.ssd_tree.specs.Rules.{IsMisreadChange}
use Rattle.ssd_tree.proofs.MisreadLemmas.{misread_at, none_misread}
use Rattle.ssd_tree.proofs.rules.has_misread.Goals as goal

pub returns-then-branch : goal.returns-then-branch
returns-then-branch c = (
  λ _. misread_at c.args.tree.now c.args.node c.children-child-items.result.now c.children-child-items.ensures c.loop-child.child-index (omega arith) (c.in_ok-is_misread.ensures.0 c.if-branch.true),
  λ _. refl,
)

pub loop-child-preserved : goal.loop-child-preserved
loop-child-preserved c =
    below_more (λ (j : ℕ). IsMisreadChange c.args.tree.now (get_or c.children-child-items.result.now j 0) → ⊥)
    c.loop-child.child-index c.loop-child.invariant (iff_false c.in_ok-is_misread.ensures c.if-branch.false)

pub returns : goal.returns
returns c = (
  λ e. absurd (false≢true e),
  λ h. absurd (none_misread c.args.tree.now c.args.node c.children-child-items.result.now c.children-child-items.ensures (λ j lower. c.loop-child.invariant j (omega arith)) h),
)
