use Rattle.doc_tables.specs.Tables.{IsTableBelow}
use Rattle.doc_tables.specs.Places.{found_in}
use Rattle.ssd_tree.specs.Elements.{mapping_key}
use Rattle.ssd_tree.proofs.indexed.mapping_places.Given as goal

abbrev pub invariant-loop-node : goal.invariant-loop-node
invariant-loop-node l = IsTableBelow (mapping_key l.tree) l.node (found_in l.places)
