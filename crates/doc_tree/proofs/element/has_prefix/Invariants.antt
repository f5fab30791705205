use Rattle.std.proofs.Common.{◌≡◌, drop}
use Rattle.doc_grammar.specs.Nodes.{is_prefixed}
use Rattle.doc_tree.proofs.element.has_prefix.Given as goal

abbrev pub invariant-loop-c : goal.invariant-loop-c
invariant-loop-c l = is_prefixed l.name ≡ is_prefixed (drop l.c-index l.name)
