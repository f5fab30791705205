use Rattle.std.proofs.Common.{codes, sym, ◌∙◌}
use Rattle.transformations.specs.Numbers.{IsBoolean, IsWholeNumber}
use Rattle.parameter_sets.proofs.ReadLemmas.{no_boolean, no_integer}
use Rattle.transformations.proofs.CallerLemmas.{unread}
use Rattle.parameter_sets.proofs.parameters.value_in.Goals as goal

pub returns-in_err-whole_number : goal.returns-in_err-whole_number
returns-in_err-whole_number c =
    rw c.from_residual.ensures
    (no_integer c.args.tree.now c.args.node (sym c.is_named.ensures ∙ c.if-is_named.true) (unread (IsWholeNumber c.args.tree.now c.args.node (codes "value")) c.whole_number.result c.in_err-whole_number.was c.whole_number.ensures.exact))

pub returns-in_err-boolean : goal.returns-in_err-boolean
returns-in_err-boolean c =
    rw c.from_residual-in_err-boolean.ensures
    (no_boolean c.args.tree.now c.args.node (sym c.is_named-else-is_named.ensures ∙ c.if-is_named-2.true) (unread (IsBoolean c.args.tree.now c.args.node (codes "value")) c.boolean.result c.in_err-boolean.was c.boolean.ensures.exact))
