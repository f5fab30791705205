use Rattle.doc_tables.specs.Tables.{IsTableBelow}
use Rattle.doc_tables.specs.Places.{found_name}
use Rattle.flatten.specs.Flat.{source_at}
use Rattle.flatten.proofs.components.first_of_sources.Given as goal

abbrev pub invariant-loop-component : goal.invariant-loop-component
invariant-loop-component l = IsTableBelow (source_at l.parts) l.component (found_name l.places)
