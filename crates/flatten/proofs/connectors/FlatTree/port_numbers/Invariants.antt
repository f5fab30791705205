use Rattle.flatten.proofs.PortNumberLemmas.{AreNumbersBelow}
use Rattle.flatten.proofs.connectors.FlatTree.port_numbers.Given as goal

abbrev pub invariant-loop-variable : goal.invariant-loop-variable
invariant-loop-variable l = AreNumbersBelow l.self.shapes.now l.variable-index l.count l.numbers.items
