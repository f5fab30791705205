use Rattle.std.proofs.Common.{◌≡◌, drop, map}
use Rattle.doc_tree.specs.Elements.{value_at, pair_of}
use Rattle.doc_tree.proofs.tree.find.Given as goal

abbrev pub invariant-loop-attr : goal.invariant-loop-attr
invariant-loop-attr l = value_at (map pair_of l.attrs) l.name ≡ value_at (map pair_of (drop l.attr-index l.attrs)) l.name
