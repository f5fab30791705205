use Rattle.std.proofs.Common.{◌≡◌, ◌≤◌}
use Rattle.std.specs.Prelude.{count_by, take}
use Rattle.doc_grammar.specs.Nodes.{Node}
use Rattle.doc_tree.specs.Path.{is_same}
use Rattle.doc_tree.proofs.tree.Tree.place_at.Given as goal

abbrev pub invariant-loop-beside : goal.invariant-loop-beside
invariant-loop-beside l = record {
  counted : l.place ≡ count_by (λ (n : Node). is_same n.parent l.parent) (take l.beside l.self);
  small : l.place ≤ l.beside;
}
