use Rattle.std.proofs.Common.{◌≡◌, length, Some, refl, ◌∙◌, arith}
use Rattle.flatten.specs.Marks.{IsOfType}
use Rattle.flatten.specs.Paths.{plain}
use Rattle.flatten.proofs.BridgeLemmas.{plain_within}
use Rattle.flatten.proofs.JoinedLemmas.{numbered_joined, shapes_joined}
use Rattle.flatten.proofs.MarkLemmas.{marked_more, marked_whole, names_shared, led_as}
use Rattle.flatten.proofs.connectors.FlatTree.type_marks.Goals as goal

pub loop-connector-preserved : goal.loop-connector-preserved
loop-connector-preserved c =
    marked_more (IsOfType c.args.self.now.tree.now c.args.self.now.shapes.now c.args.kind) c.loop-connector.connector c.loop-connector.starts.items c.push.new.self.items c.is_output_with.result c.in_ok-push.ensures.items c.is_output_with.ensures c.loop-connector.invariant

pub reached_marks-requires-clause-ends : goal.reached_marks-requires-clause-ends
reached_marks-requires-clause-ends c =
    let f = c.requires.indexed in
    plain_within c.args.self.now.tree.now (length c.args.self.now.tree.now.connectors) c.as_slice.result.now f.whole refl (c.as_slice.ensures.value ∙ f.plain)

pub reached_marks-requires-clause-shared : goal.reached_marks-requires-clause-shared
reached_marks-requires-clause-shared c =
    let f = c.requires.indexed in
    let n = f.points.len in
    names_shared c.args.self.now.tree.now c.args.self.now.shapes.now c.args.self.now.points.items f.shapes f.points (λ x. x.kind ≡ Some c.args.kind) c.loop-connector.starts.items
    (marked_whole c.args.self.now.tree.now (IsOfType c.args.self.now.tree.now c.args.self.now.shapes.now c.args.kind) c.loop-connector.connector c.loop-connector.starts.items (omega (arith, n)) c.loop-connector.invariant)

pub returns : goal.returns
returns c =
    let f = c.requires.indexed in
    let t = c.args.self.now.tree.now in
    let shapes = c.args.self.now.shapes.now in
    let points = c.args.self.now.points.items in
    let ks = (plain t).connections in
    let n = f.points.len in (
      refl,
      led_as (plain t) shapes points (shapes_joined t ks shapes f.shapes) (numbered_joined t ks shapes points f.points) (IsOfType (plain t) shapes c.args.kind) c.loop-connector.starts.items c.in_ok-reached_marks.field-0.items
          (marked_whole (plain t) (IsOfType (plain t) shapes c.args.kind) c.loop-connector.connector c.loop-connector.starts.items (omega (arith, n)) c.loop-connector.invariant)
          (c.in_ok-reached_marks.ensures ks (c.as_slice.ensures.value ∙ f.plain)),
    )
