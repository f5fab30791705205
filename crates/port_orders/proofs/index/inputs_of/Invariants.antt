use Rattle.port_orders.specs.Gathered.{AreInputs}
use Rattle.port_orders.proofs.index.inputs_of.Given as goal

abbrev pub invariant-loop-number : goal.invariant-loop-number
invariant-loop-number l = AreInputs l.components l.ports l.taken l.number l.inputs
