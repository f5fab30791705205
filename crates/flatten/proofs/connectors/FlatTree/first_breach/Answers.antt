use Rattle.std.proofs.Common.{sym, subst}
use Rattle.std.specs.Result.{IfOk}
use Rattle.doc_tables.specs.Violations.{FindsLeast}
use Rattle.flatten.specs.Rules.{ViolatesFlattening}
use Rattle.flatten.proofs.connectors.FlatTree.first_breach.Goals as goal

pub returns-in-Flattening : goal.returns-in-Flattening
returns-in-Flattening c =
    subst (λ z. IfOk c.first_broken.result (FindsLeast (ViolatesFlattening c.args.self.now.tree.now c.args.self.now.shapes.now z))) (sym c.in-Flattening.is) c.first_broken.ensures

pub returns-in-SavesNoState : goal.returns-in-SavesNoState
returns-in-SavesNoState c =
    subst (λ z. FindsLeast (ViolatesFlattening c.args.self.now.tree.now c.args.self.now.shapes.now z) c.first_unsaved.result) (sym c.in-SavesNoState.is) c.first_unsaved.ensures

pub returns-in-TooManyPorts : goal.returns-in-TooManyPorts
returns-in-TooManyPorts c =
    subst (λ z. FindsLeast (ViolatesFlattening c.args.self.now.tree.now c.args.self.now.shapes.now z) c.first_with_too_many.result) (sym c.in-TooManyPorts.is) c.first_with_too_many.ensures
