use Rattle.std.proofs.Common.{◌≡◌, ◌∙◌, ◌+◌, ℕ, length, sym, ap}
use Rattle.ssd_tree.proofs.ElementLemmas.{in_root_is, outside_root}
use Rattle.ssd_tree.proofs.NameLemmas.{name_ended, name_more, none_held, none_named, root_top}
use Rattle.ssd_tree.proofs.names.name_length.Goals as goal

pub returns-in_default-attribute : goal.returns-in_default-attribute
returns-in_default-attribute c =
    none_named c.args.tree.now c.args.node c.loop-outer.current c.loop-outer.after (sym c.in_default-attribute.ensures) c.loop-outer.invariant

pub returns-then-is_in_root : goal.returns-then-is_in_root
returns-then-is_in_root c =
    let t = c.args.tree.now in
    name_ended t (root_top t c.parent-above.result c.parent-above.ensures.parent c.parent-above.ensures.before) c.args.node c.loop-outer.current c.in-Some.outer c.loop-outer.after c.in_ok-sum.field-0 c.in-Some-attribute.own.now
    (sym c.in-Some.ensures.holder) (sym c.in-Some-attribute.ensures) (in_root_is t c.in-Some.outer (sym c.if-is_in_root.ensures)) c.in_ok-sum.ensures c.loop-outer.invariant

pub loop-outer-preserved : goal.loop-outer-preserved
loop-outer-preserved c =
    let t = c.args.tree.now in
    let own = c.in-Some-attribute.own.now in
    let more : c.in_ok-after.after ≡ (length own + 1) + c.loop-outer.after = c.in_ok-after.ensures ∙ ap (λ (n : ℕ). n + c.loop-outer.after) c.in_ok-sum-2.ensures in
    name_more t c.args.node c.loop-outer.current c.in-Some.outer c.loop-outer.after c.in_ok-after.after own
    (sym c.in-Some.ensures.holder) (sym c.in-Some-attribute.ensures) (outside_root t c.in-Some.outer (sym c.if-is_in_root.ensures)) more c.loop-outer.invariant

pub returns : goal.returns
returns c =
    none_held c.args.tree.now c.args.node c.loop-outer.current c.loop-outer.after (sym c.in_default.ensures.holder) c.loop-outer.invariant
