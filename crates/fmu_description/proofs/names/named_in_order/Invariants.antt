use Rattle.fmu_description.specs.Elements.{name_key}
use Rattle.fmu_description.specs.Names.{AreNamedBelow}
use Rattle.fmu_description.proofs.names.named_in_order.Given as goal

abbrev pub invariant-loop-node : goal.invariant-loop-node
invariant-loop-node l = AreNamedBelow (name_key l.tree) l.node l.named.items
