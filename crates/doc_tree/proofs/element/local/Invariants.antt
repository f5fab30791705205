use Rattle.std.proofs.Common.{◌≡◌, ◌≤◌, take, drop}
use Rattle.doc_grammar.specs.Nodes.{local_name}
use Rattle.doc_tree.proofs.element.local.Given as goal

abbrev pub invariant-loop-i : goal.invariant-loop-i
invariant-loop-i l = (l.from ≤ l.i) × (local_name (take l.i l.name) ≡ drop l.from (take l.i l.name))
