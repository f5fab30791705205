use Rattle.flatten.specs.Rules.{ViolatesFlattening}
use Rattle.flatten.proofs.FirstLemmas.{FindsFirst}
use Rattle.flatten.proofs.connectors.FlatTree.first_violation.Given as goal

abbrev pub invariant-loop-rule : goal.invariant-loop-rule
invariant-loop-rule l = FindsFirst (ViolatesFlattening l.self.tree.now l.self.shapes.now) l.rule-index l.first
