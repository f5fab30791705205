use Rattle.std.proofs.Common.{◌≤◌}
use Rattle.std.proofs.lemmas.List.{get_or_default}
use Rattle.doc_tree.specs.declared.rule.Rule.TheVariants.{TooManyPorts}
use Rattle.flatten.specs.declared.rules.TheConstants.{ELEMENT_RULES}
use Rattle.flatten.specs.Rules.{ViolatesFlattening}
use Rattle.flatten.proofs.FirstLemmas.{all_first, first_step}
use Rattle.flatten.proofs.connectors.FlatTree.first_violation.Goals as goal

pub loop-rule-preserved : goal.loop-rule-preserved
loop-rule-preserved c =
    let i = c.loop-rule.rule-index in
    first_step (ViolatesFlattening c.args.self.now.tree.now c.args.self.now.shapes.now) i c.loop-rule.first c.earlier_violation-first.result c.in_ok-node.node _ (get_or_default ELEMENT_RULES i _ TooManyPorts c.loop-rule-test.true) c.earlier_violation-first.ensures c.loop-rule.invariant c.in_ok-node.ensures

pub returns : goal.returns
returns c =
    let past : 9 ≤ c.loop-rule.rule-index = c.loop-rule-test.false in
    let most : c.loop-rule.rule-index ≤ 9 = c.loop-rule.auto.rule-index-end in
    all_first c.args.self.now.tree.now c.args.self.now.shapes.now c.loop-rule.rule-index c.loop-rule.first past most c.loop-rule.invariant
