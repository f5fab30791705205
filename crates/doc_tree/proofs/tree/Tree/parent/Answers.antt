use Rattle.std.proofs.Common.{◌≡◌, ◌<◌, List, length, get_or, sym, subst, arith, rules}
use Rattle.std.proofs.lemmas.List.{length-map}
use Rattle.doc_grammar.specs.Nodes.{Node}
use Rattle.doc_tree.specs.Elements.{node_of}
use Rattle.doc_tree.proofs.ChildLemmas.{parent_before}
use Rattle.doc_tree.proofs.tree.Tree.parent.Goals as goal

pub returns-clause-before : goal.returns-clause-before
returns-clause-before c =
    let seen = subst (λ (z : List Node). c.args.node < length z) (sym c.self.view_is) c.requires in
    let within : c.args.node < length c.self.inside.elements.items = omega (arith, seen, length-map c.self.inside.elements.items node_of) in
    let is : c.index.result.now ≡ get_or c.self.inside.elements.items c.args.node c.index.result.now = search rules in
    parent_before c.self.inside.elements.items c.args.node c.index.result.now c.self.invariant.in_order within is
