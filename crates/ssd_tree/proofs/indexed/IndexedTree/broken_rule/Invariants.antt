use Rattle.doc_tree.specs.declared.rule.SystemRule.TheVariants as r
use Rattle.doc_tree.specs.declared.rule.TheConstants.{SYSTEM_RULES}
use Rattle.doc_tree.specs.Rules.{system_number}
use Rattle.doc_tables.proofs.CallerLemmas.{KeepsBelow}
use Rattle.ssd_tree.specs.Rules.{ViolatesStructure}
use Rattle.ssd_tree.proofs.indexed.IndexedTree.broken_rule.Given as goal

abbrev pub invariant-loop-rule : goal.invariant-loop-rule
invariant-loop-rule l = KeepsBelow system_number (ViolatesStructure l.self.setting l.self.tree.now) SYSTEM_RULES r.Structure l.node l.rule-index
