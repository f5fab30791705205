use Rattle.std.proofs.Common.{◌≡◌, take, map}
use Rattle.doc_grammar.specs.Nodes.{kept}
use Rattle.doc_events.specs.Pairs.{pair_of}
use Rattle.doc_tree.specs.Elements as e
use Rattle.doc_tree.proofs.element.kept_of.Given as goal

abbrev pub invariant-loop-attr : goal.invariant-loop-attr
invariant-loop-attr l = map e.pair_of l.attrs.items ≡ kept (map pair_of (take l.attr-index l.all))
