use Rattle.std.proofs.Common.{◌≡◌, true, false, length, get_or, refl, sym, ap, ◌∙◌, arith, below_more}
use Rattle.doc_tree.specs.Elements.{children_of}
use Rattle.fmu_description.specs.Elements.{is_dimension}
use Rattle.fmu_description.proofs.FollowLemmas.{a_dimension, no_dimension}
use Rattle.fmu_description.proofs.ignored.has_dimension.Goals as goal

pub returns-then-is_dimension : goal.returns-then-is_dimension
returns-then-is_dimension c =
    let t = c.args.tree.now in
    let k = c.args.node in
    let i = c.loop-child.child-index in
    let e = c.children-child-items.ensures in
    let is : is_dimension t (get_or (children_of t k) i 0) ≡ true = ap (λ z. is_dimension t (get_or z i 0)) (sym e) ∙ sym c.is_dimension.ensures ∙ c.if-is_dimension.true in
    (λ _. a_dimension t k i (omega (arith, ap length e)) is, λ _. refl)

pub loop-child-preserved : goal.loop-child-preserved
loop-child-preserved c =
    let t = c.args.tree.now in
    let i = c.loop-child.child-index in
    let children = children_of t c.args.node in
    let e = c.children-child-items.ensures in
    let isnt : is_dimension t (get_or children i 0) ≡ false = ap (λ z. is_dimension t (get_or z i 0)) (sym e) ∙ sym c.is_dimension.ensures ∙ c.if-is_dimension.false in
    below_more (λ j. is_dimension t (get_or children j 0) ≡ true → ⊥) i c.loop-child.invariant (λ is. cc)

pub returns : goal.returns
returns c =
    let t = c.args.tree.now in
    let e = c.children-child-items.ensures in
    (λ wrong. cc, λ has. absurd (no_dimension t c.args.node (λ j within is. c.loop-child.invariant j (omega (arith, ap length e)) is) has))
