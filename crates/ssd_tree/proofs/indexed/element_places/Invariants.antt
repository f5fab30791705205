use Rattle.doc_tables.specs.Tables.{IsTableBelow}
use Rattle.doc_tables.specs.Places.{found_in}
use Rattle.ssd_tree.specs.Elements.{element_key}
use Rattle.ssd_tree.proofs.indexed.element_places.Given as goal

abbrev pub invariant-loop-node : goal.invariant-loop-node
invariant-loop-node l = IsTableBelow (element_key l.tree) l.node (found_in l.places)
