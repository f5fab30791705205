use Rattle.std.proofs.Common.{ℕ, get_or, refl, arith, below_more}
use Rattle.std.proofs.lemmas.Bool.{iff_false}
use Rattle.doc_tree.specs.declared.rule.SystemRule.TheVariants as r
use Rattle.doc_tree.specs.declared.rule.TheConstants.{SYSTEM_RULES}
use Rattle.doc_tree.specs.Rules.{system_number}
use Rattle.doc_tables.proofs.CallerLemmas.{keeps_all, least_at}
use Rattle.ssd_tree.specs.Rules.{ViolatesStructure}
use Rattle.ssd_tree.proofs.RuleLemmas.{rules_listed}
use Rattle.ssd_tree.proofs.indexed.IndexedTree.broken_rule.Goals as goal

pub returns-then-branch : goal.returns-then-branch
returns-then-branch c =
    least_at system_number (ViolatesStructure c.args.self.now.setting c.args.self.now.tree.now) SYSTEM_RULES r.Structure c.args.node rules_listed c.loop-rule.rule-index (omega arith) c.loop-rule.invariant _ refl
    (c.in_ok-breaks.ensures.0 c.if-branch.true)

pub loop-rule-preserved : goal.loop-rule-preserved
loop-rule-preserved c =
    below_more (λ (j : ℕ). ViolatesStructure c.args.self.now.setting c.args.self.now.tree.now (get_or SYSTEM_RULES j r.Structure) c.args.node → ⊥)
    c.loop-rule.rule-index c.loop-rule.invariant (iff_false c.in_ok-breaks.ensures c.if-branch.false)

pub returns : goal.returns
returns c =
    keeps_all system_number (ViolatesStructure c.args.self.now.setting c.args.self.now.tree.now) SYSTEM_RULES r.Structure c.args.node rules_listed (λ j lower. c.loop-rule.invariant j (omega arith))
