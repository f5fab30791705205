use Rattle.std.proofs.Common.{length, reverse, map, sym, ap, ◌∙◌}
use Rattle.doc_grammar.specs.Nodes.{node, innermost}
use Rattle.doc_events.specs.Pairs.{pair_of}
use Rattle.doc_tree.proofs.BuildLemmas.{starts_below, begun_below, begun_view}
use Rattle.doc_tree.proofs.builder.Builder.begin.Goals as goal

pub with-requires : goal.with-requires
with-requires c =
    starts_below c.self.inside.around.items c.as_slice.result.now c.self.inside.tree _ c.innermost-parent.result c.in_ok-element.field-0.parent
    c.self.invariant c.tree.view_is c.as_slice.ensures.value c.innermost-parent.ensures.below c.in_ok-element.ensures.parent

pub invariant_of-result : goal.invariant_of-result
invariant_of-result c =
    begun_below c.self.inside.around.items c.push.new.self.items c.self.inside.tree _ c.in_ok-tree.tree _ _
    c.self.invariant (sym c.tree.view_is) (c.len.ensures ∙ ap length (sym c.tree.view_is)) c.in_ok-push.ensures.items c.in_ok-tree.ensures

pub returns : goal.returns
returns c =
    begun_view c.args.self c.self.inside.around.items c.push.new.self.items c.self.inside.tree _ c.in_ok-tree.tree _ _ _
    (sym c.self.view_is) (sym c.tree.view_is) (c.len.ensures ∙ ap length (sym c.tree.view_is)) c.in_ok-push.ensures.items c.in_ok-tree.ensures
    (c.in_ok-element.ensures.node
    ∙ ap (node c.args.name.now (map pair_of c.args.attributes.now)) (c.innermost-parent.ensures.value ∙ ap (λ z. innermost (reverse z)) c.as_slice.ensures.value ∙ ap (λ z. innermost z.0) c.self.view_is))
