use Rattle.std.proofs.Common.{◌≡◌, map, drop}
use Rattle.doc_grammar.specs.Grammar.{has}
use Rattle.doc_events.specs.Pairs.{pair_of}
use Rattle.doc_events.proofs.attributes.is_among.Given as goal

abbrev pub invariant-loop-attribute : goal.invariant-loop-attribute
invariant-loop-attribute l = has (map pair_of (drop l.attribute-index l.attributes)) l.name ≡ has (map pair_of l.attributes) l.name
