use Rattle.std.proofs.Common.{List, length, sym, subst, arith}
use Rattle.doc_grammar.specs.Nodes.{Node}
use Rattle.doc_tree.specs.Elements.{IsBelow}
use Rattle.doc_tree.proofs.ChildLemmas.{keeps_more}
use Rattle.doc_tree.proofs.tree.Tree.with.Goals as goal

pub invariant_of-result : goal.invariant_of-result
invariant_of-result c =
    keeps_more c.self.inside.elements.items c.push-2.new.self.items c.self.inside.children.items c.adopt_if.new.children.items c.push.new.self.items c.args.element c.new.result c.len-node.result
    c.self.invariant (omega arith) c.in_ok-adopt_if.ensures.lists c.adopt_if.ensures.len c.new.ensures.items c.in_ok-push.ensures.items c.in_ok-push-2.ensures.items (subst (λ (z : List Node). IsBelow (length z) c.args.element.parent) (sym c.self.view_is) c.requires)
