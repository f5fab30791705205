use Rattle.doc_tables.specs.Places.{found_in}
use Rattle.doc_tables.specs.Tables.{IsTableBelow}
use Rattle.flatten.specs.Indexed.{wanted_at}
use Rattle.flatten.proofs.names.wanted_places.Given as goal

abbrev pub invariant-loop-number : goal.invariant-loop-number
invariant-loop-number l = IsTableBelow (wanted_at l.connectors) l.number (found_in l.wanted)
