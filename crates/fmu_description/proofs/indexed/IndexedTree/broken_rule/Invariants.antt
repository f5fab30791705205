use Rattle.fmu_description.proofs.RuleLemmas.{KeepsBelow}
use Rattle.fmu_description.proofs.indexed.IndexedTree.broken_rule.Given as goal

abbrev pub invariant-loop-rule : goal.invariant-loop-rule
invariant-loop-rule l = KeepsBelow l.self.tree.now l.self.resolution l.node l.rule-index
