use Rattle.std.proofs.Common.{ℕ, get_or, refl, arith, below_more}
use Rattle.std.proofs.lemmas.Bool.{iff_false}
use Rattle.doc_tree.specs.declared.rule.DescriptionRule.TheVariants as r
use Rattle.doc_tree.specs.declared.rule.TheConstants.{DESCRIPTION_RULES}
use Rattle.fmu_description.specs.Rules.{ViolatesDescription}
use Rattle.fmu_description.proofs.RuleLemmas.{keeps_all, least_at}
use Rattle.fmu_description.proofs.indexed.IndexedTree.broken_rule.Goals as goal

pub returns-then-branch : goal.returns-then-branch
returns-then-branch c =
    least_at c.args.self.now.tree.now c.args.self.now.resolution c.args.node c.loop-rule.rule-index (omega arith) c.loop-rule.invariant _ refl
    (c.in_ok-breaks.ensures.0 c.if-branch.true)

pub loop-rule-preserved : goal.loop-rule-preserved
loop-rule-preserved c =
    below_more (λ (j : ℕ). ViolatesDescription c.args.self.now.tree.now c.args.self.now.resolution (get_or DESCRIPTION_RULES j r.RootName) c.args.node → ⊥)
    c.loop-rule.rule-index c.loop-rule.invariant (iff_false c.in_ok-breaks.ensures c.if-branch.false)

pub returns : goal.returns
returns c =
    keeps_all c.args.self.now.tree.now c.args.self.now.resolution c.args.node (λ j lower. c.loop-rule.invariant j (omega arith))
