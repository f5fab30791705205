use Rattle.std.proofs.Common.{length, refl, ◌∙◌, arith}
use Rattle.flatten.specs.Marks.{IsOfClass}
use Rattle.flatten.proofs.BridgeLemmas.{ends_within}
use Rattle.flatten.proofs.MarkLemmas.{marked_more, marked_whole, class_shared, led_as}
use Rattle.flatten.proofs.connectors.FlatTree.class_marks.Goals as goal

pub loop-connector-preserved : goal.loop-connector-preserved
loop-connector-preserved c =
    marked_more (IsOfClass c.args.self.now.tree.now c.args.self.now.shapes.now c.args.class) c.loop-connector.connector c.loop-connector.starts.items c.push.new.self.items c.is_of_class.result c.in_ok-push.ensures.items c.is_of_class.ensures c.loop-connector.invariant

pub reached_marks-requires-clause-ends : goal.reached_marks-requires-clause-ends
reached_marks-requires-clause-ends c =
    let f = c.requires.indexed in
    ends_within c.args.self.now.tree.now (length c.args.self.now.tree.now.connectors) c.as_slice.result.now f.whole refl (c.as_slice.ensures.value ∙ f.connections)

pub reached_marks-requires-clause-shared : goal.reached_marks-requires-clause-shared
reached_marks-requires-clause-shared c =
    let f = c.requires.indexed in
    let n = c.requires.fed.len in
    class_shared c.args.self.now.tree.now c.args.self.now.shapes.now c.args.self.now.points.items f.shapes f.points c.args.class c.loop-connector.starts.items
    (marked_whole c.args.self.now.tree.now (IsOfClass c.args.self.now.tree.now c.args.self.now.shapes.now c.args.class) c.loop-connector.connector c.loop-connector.starts.items (omega (arith, n)) c.loop-connector.invariant)

pub returns : goal.returns
returns c =
    let f = c.requires.indexed in
    let n = c.requires.fed.len in (
      refl,
      led_as c.args.self.now.tree.now c.args.self.now.shapes.now c.args.self.now.points.items f.shapes f.points (IsOfClass c.args.self.now.tree.now c.args.self.now.shapes.now c.args.class) c.loop-connector.starts.items c.in_ok-reached_marks.field-0.items
          (marked_whole c.args.self.now.tree.now (IsOfClass c.args.self.now.tree.now c.args.self.now.shapes.now c.args.class) c.loop-connector.connector c.loop-connector.starts.items (omega (arith, n)) c.loop-connector.invariant) (c.in_ok-reached_marks.ensures c.args.self.now.tree.now.connections (c.as_slice.ensures.value ∙ f.connections)),
    )
