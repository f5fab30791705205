use Rattle.std.proofs.Common.{sym, ◌∙◌, inl, inr}
use Rattle.ssd_tree.proofs.ElementLemmas.{system_from, inside_from}
use Rattle.ssd_tree.proofs.sorts.is_system.Goals as goal

pub returns-then-is_in_root : goal.returns-then-is_in_root
returns-then-is_in_root c =
    (λ _. system_from c.args.tree.now c.args.node (sym c.is_named.ensures ∙ c.if-is_named.true) (inl (sym c.is_in_root.ensures ∙ c.if-is_in_root.true)), λ _. c.if-is_in_root.true)

pub returns-else-is_in_root : goal.returns-else-is_in_root
returns-else-is_in_root c = (
  λ e. system_from c.args.tree.now c.args.node (sym c.is_named.ensures ∙ c.if-is_named.true) (inr (c.is_inside.ensures.0 e)),
  λ is. c.is_inside.ensures.1 (inside_from c.args.tree.now c.args.node (sym c.is_in_root.ensures ∙ c.if-is_in_root.false) is),
)
