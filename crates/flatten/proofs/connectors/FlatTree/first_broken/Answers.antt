use Rattle.std.proofs.Common.{sym, subst}
use Rattle.std.specs.Result.{IfOk}
use Rattle.doc_tables.specs.Violations.{FindsLeast}
use Rattle.flatten.specs.Rules.{Breaks}
use Rattle.flatten.proofs.FirstLemmas.{least_broken}
use Rattle.flatten.proofs.connectors.FlatTree.first_broken.Goals as goal

pub returns-in-EndTwice : goal.returns-in-EndTwice
returns-in-EndTwice c =
    subst (λ z. IfOk c.first_repeated_end.result (FindsLeast (Breaks c.args.self.now.tree.now c.args.self.now.shapes.now z))) (sym c.in-EndTwice.is) c.first_repeated_end.ensures

pub returns-in_default : goal.returns-in_default
returns-in_default c =
    let t = c.args.self.now.tree.now in
    let shapes = c.args.self.now.shapes.now in
    subst (FindsLeast (Breaks t shapes c.args.rule)) (sym c.earlier.ensures)
    (least_broken t shapes c.args.rule c.first_connector.result c.first_connection.result c.in_default.not-EndTwice c.in_default.not-OtherChange c.first_connector.ensures c.first_connection.ensures)

pub returns-in-OtherChange : goal.returns-in-OtherChange
returns-in-OtherChange c =
    subst (λ z. FindsLeast (Breaks c.args.self.now.tree.now c.args.self.now.shapes.now z) c.first_other_change.result) (sym c.in-OtherChange.is) c.first_other_change.ensures
