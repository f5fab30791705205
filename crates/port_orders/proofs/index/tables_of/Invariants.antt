use Rattle.port_orders.specs.Gathered.{AreTables}
use Rattle.port_orders.proofs.index.tables_of.Given as goal

abbrev pub invariant-loop-number : goal.invariant-loop-number
invariant-loop-number l = AreTables l.components l.ports l.taken l.number l.tables.items
