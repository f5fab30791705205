use Rattle.std.proofs.Common.{codes}
use Rattle.transformations.specs.Numbers.{IsWholeNumber}
use Rattle.transformations.proofs.ReadLemmas.{unread}
use Rattle.transformations.proofs.change.integer_pair.Goals as goal

pub returns-in_err-source : goal.returns-in_err-source
returns-in_err-source c =
    rw c.from_residual.ensures (λ x is. unread (IsWholeNumber c.args.tree.now c.args.node (codes "source")) c.whole_number.result c.in_err-source.was c.whole_number.ensures.exact x.source is.0)

pub returns-in_err-target : goal.returns-in_err-target
returns-in_err-target c =
    rw c.from_residual-in_err-target.ensures (λ x is. unread (IsWholeNumber c.args.tree.now c.args.node (codes "target")) c.whole_number-2.result c.in_err-target.was c.whole_number-2.ensures.exact x.target is.1)
