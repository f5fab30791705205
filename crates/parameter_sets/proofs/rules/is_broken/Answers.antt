use Rattle.std.proofs.Common.{◌↔◌, IsTrue, sym, subst}
use Rattle.std.specs.Result.{IfOk}
use Rattle.parameter_sets.specs.Rules.{IsBroken}
use Rattle.parameter_sets.proofs.rules.is_broken.Goals as goal

pub returns-in-Transformation : goal.returns-in-Transformation
returns-in-Transformation c =
    subst (λ part. IfOk c.is_misread.result (λ b. IsTrue b ↔ IsBroken c.args.tree.now part c.args.node)) (sym c.in-Transformation.is) c.is_misread.ensures
