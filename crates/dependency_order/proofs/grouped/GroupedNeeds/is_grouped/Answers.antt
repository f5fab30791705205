use Rattle.std.proofs.Common.{◌-◌, sym, ◌∙◌, subst, arith}
use Rattle.std.proofs.lemmas.Bool.{false≢true, leb-true, le-leb}
use Rattle.dependency_order.specs.Graph.{AreBelow}
use Rattle.dependency_order.specs.Grouped.{AreNamed}
use Rattle.dependency_order.proofs.grouped.GroupedNeeds.is_grouped.Goals as goal

pub returns-then-not-are_below : goal.returns-then-not-are_below
returns-then-not-are_below c =
    (λ no. absurd (false≢true no), λ is. absurd (false≢true (sym c.if-not-are_below.true ∙ c.are_below.ensures.1 (subst (AreBelow c.args.self.now.listed) (sym c.len-nodes.ensures) is.listed))))

pub returns-then-not-are_below-2 : goal.returns-then-not-are_below-2
returns-then-not-are_below-2 c =
    (λ no. absurd (false≢true no), λ is. absurd (false≢true (sym c.if-not-are_below-2.true ∙ c.are_below-2.ensures.1 (subst (AreBelow c.args.self.now.groups) (sym c.len-nodes.ensures) is.groups))))

pub returns : goal.returns
returns c =
    let nodes = c.len-nodes.ensures in
    let groups = c.len-3.ensures in (
      λ fits. record {
        places = omega arith;
        listed = subst (AreBelow c.args.self.now.listed) nodes (c.are_below.ensures.0 c.if-not-are_below.false);
        groups = subst (AreBelow c.args.self.now.groups) nodes (c.are_below-2.ensures.0 c.if-not-are_below-2.false);
        named = subst (AreNamed c.args.self.now.group_of.items) c.len-2.ensures (subst (λ z. AreNamed z c.len-2.result) c.as_slice.ensures.value (c.are_named.ensures.0 c.if-not-are_named.false));
        few = let l = leb-true c.len-3.result (18446744073709551615 - c.len-nodes.result) fits in omega (arith, l, nodes, groups);
      },
      λ is. le-leb c.len-3.result (18446744073709551615 - c.len-nodes.result) (let few = is.few in omega (arith, few, nodes, groups)),
    )
