use Rattle.std.proofs.Common.{◌↔◌, IsTrue, IfOk, sym, subst}
use Rattle.doc_tree.specs.declared.rule.DescriptionRule.{DescriptionRule}
use Rattle.fmu_description.specs.Rules.{ViolatesDescription}
use Rattle.fmu_description.proofs.indexed.IndexedTree.breaks.Goals as goal

pub returns-in-Misread : goal.returns-in-Misread
returns-in-Misread c =
    subst (λ (rule : DescriptionRule). IfOk c.misreads_something.result (λ b. IsTrue b ↔ ViolatesDescription c.args.self.now.tree.now c.args.self.now.resolution rule c.args.node))
    (sym c.in-Misread.is) c.misreads_something.ensures

pub returns-in-NoInterval : goal.returns-in-NoInterval
returns-in-NoInterval c =
    subst (λ (rule : DescriptionRule). IsTrue c.lacks_interval.result ↔ ViolatesDescription c.args.self.now.tree.now c.args.self.now.resolution rule c.args.node)
    (sym c.in-NoInterval.is) c.lacks_interval.ensures

pub returns-in-NoClock : goal.returns-in-NoClock
returns-in-NoClock c =
    subst (λ (rule : DescriptionRule). IfOk c.variable_names_no_clock.result (λ b. IsTrue b ↔ ViolatesDescription c.args.self.now.tree.now c.args.self.now.resolution rule c.args.node))
    (sym c.in-NoClock.is) c.variable_names_no_clock.ensures

pub returns-in-NoVariable : goal.returns-in-NoVariable
returns-in-NoVariable c =
    subst (λ (rule : DescriptionRule). IfOk c.unknown_names_no_variable.result (λ b. IsTrue b ↔ ViolatesDescription c.args.self.now.tree.now c.args.self.now.resolution rule c.args.node))
    (sym c.in-NoVariable.is) c.unknown_names_no_variable.ensures
