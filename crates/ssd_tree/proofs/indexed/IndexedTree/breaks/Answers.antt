use Rattle.std.proofs.Common.{◌↔◌, IsTrue, IfOk, sym, subst}
use Rattle.doc_tree.specs.declared.rule.SystemRule.{SystemRule}
use Rattle.ssd_tree.specs.Rules.{ViolatesStructure}
use Rattle.ssd_tree.proofs.indexed.IndexedTree.breaks.Goals as goal

pub returns-in-NoSource : goal.returns-in-NoSource
returns-in-NoSource c =
    subst (λ (rule : SystemRule). IfOk c.has_no_source.result (λ b. IsTrue b ↔ ViolatesStructure c.args.self.now.setting c.args.self.now.tree.now rule c.args.node)) (sym c.in-NoSource.is) c.has_no_source.ensures

pub returns-in-Incomplete : goal.returns-in-Incomplete
returns-in-Incomplete c =
    subst (λ (rule : SystemRule). IsTrue c.is_incomplete.result ↔ ViolatesStructure c.args.self.now.setting c.args.self.now.tree.now rule c.args.node) (sym c.in-Incomplete.is) c.is_incomplete.ensures

pub returns-in-Transformation : goal.returns-in-Transformation
returns-in-Transformation c =
    subst (λ (rule : SystemRule). IfOk c.has_misread_change.result (λ b. IsTrue b ↔ ViolatesStructure c.args.self.now.setting c.args.self.now.tree.now rule c.args.node)) (sym c.in-Transformation.is) c.has_misread_change.ensures

pub returns-in-TooManyComponents : goal.returns-in-TooManyComponents
returns-in-TooManyComponents c =
    subst (λ (rule : SystemRule). IfOk c.passes_limits.result (λ b. IsTrue b ↔ ViolatesStructure c.args.self.now.setting c.args.self.now.tree.now rule c.args.node)) (sym c.in-TooManyComponents.is) c.passes_limits.ensures
