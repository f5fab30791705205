use Rattle.std.proofs.Common.{length, refl, sym, ◌∙◌, subst, arith}
use Rattle.std.specs.List.{AllZip}
use Rattle.std.proofs.lemmas.List.{take_all}
use Rattle.flatten.specs.declared.marks.TheConstants.{CLASSES, INTEGER_TYPES}
use Rattle.flatten.specs.Marks.{AreClassMarks, AreLedTo, AreTypeMarks, IsOutputAt}
use Rattle.flatten.specs.Paths.{plain}
use Rattle.flatten.proofs.BridgeLemmas.{ends_within}
use Rattle.flatten.proofs.MarkLemmas.{names_shared, led_as}
use Rattle.flatten.proofs.connectors.FlatTree.marks.Goals as goal

pub reached_marks-requires-clause-ends : goal.reached_marks-requires-clause-ends
reached_marks-requires-clause-ends c =
    let f = c.requires.indexed in
    ends_within c.args.self.now.tree.now (length c.args.self.now.tree.now.connectors) c.as_slice.result.now f.whole refl (c.as_slice.ensures.value ∙ f.connections)

pub reached_marks-requires-clause-shared : goal.reached_marks-requires-clause-shared
reached_marks-requires-clause-shared c =
    let f = c.requires.indexed in
    names_shared c.args.self.now.tree.now c.args.self.now.shapes.now c.args.self.now.points.items f.shapes f.points (λ x. Unit {0}) c.in_ok-outputs.outputs.items c.in_ok-outputs.ensures

pub class_marks-requires-clause-fed : goal.class_marks-requires-clause-fed
class_marks-requires-clause-fed c =
    let f = c.requires.indexed in
    subst (AreLedTo c.args.self.now.tree.now c.args.self.now.shapes.now (IsOutputAt c.args.self.now.tree.now c.args.self.now.shapes.now)) (sym c.as_slice-in-loop-class.ensures.value)
    (led_as c.args.self.now.tree.now c.args.self.now.shapes.now c.args.self.now.points.items f.shapes f.points (IsOutputAt c.args.self.now.tree.now c.args.self.now.shapes.now) c.in_ok-outputs.outputs.items c.in_ok-fed.fed.items c.in_ok-outputs.ensures (c.in_ok-fed.ensures c.args.self.now.tree.now.connections (c.as_slice.ensures.value ∙ f.connections)))

pub returns : goal.returns
returns c =
    let f = c.requires.indexed in
    record {
      fed = led_as c.args.self.now.tree.now c.args.self.now.shapes.now c.args.self.now.points.items f.shapes f.points (IsOutputAt c.args.self.now.tree.now c.args.self.now.shapes.now) c.in_ok-outputs.outputs.items c.in_ok-fed.fed.items c.in_ok-outputs.ensures (c.in_ok-fed.ensures c.args.self.now.tree.now.connections (c.as_slice.ensures.value ∙ f.connections));
      classes = subst (λ z. AllZip (AreClassMarks c.args.self.now.tree.now c.args.self.now.shapes.now) z c.loop-class.classes.items) (take_all c.loop-class.class-index CLASSES (omega arith)) c.loop-class.invariant;
      types = subst (λ z. AllZip (AreTypeMarks (plain c.args.self.now.tree.now) c.args.self.now.shapes.now) z c.loop-kind.types.items) (take_all c.loop-kind.kind-index INTEGER_TYPES (omega arith)) c.loop-kind.invariant;
      no_integers = c.in_ok-leading_on.ensures;
      no_booleans = c.in_ok-leading_on-2.ensures;
    }
