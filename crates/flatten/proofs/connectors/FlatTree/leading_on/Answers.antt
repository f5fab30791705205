use Rattle.std.proofs.Common.{◌≡◌, List, map, length, refl, ◌∙◌, arith}
use Rattle.dependency_order.specs.Paths.{IsMarked}
use Rattle.ssd_tree.specs.declared.tree.Connection.{Connection}
use Rattle.flatten.specs.Indexed.{ends_of, joined}
use Rattle.flatten.specs.Marks.{AreLeadingOn, AreLedTo, IsInputBeside}
use Rattle.flatten.specs.Paths.{turned}
use Rattle.flatten.proofs.BridgeLemmas.{turned_within}
use Rattle.flatten.proofs.JoinedLemmas.{numbered_joined, shapes_joined}
use Rattle.flatten.proofs.MarkLemmas.{beside_shared, if_ok, marked_more, marked_whole, led_as}
use Rattle.flatten.proofs.connectors.FlatTree.leading_on.Goals as goal

pub loop-connector-preserved : goal.loop-connector-preserved
loop-connector-preserved c =
    marked_more (IsInputBeside c.args.class c.args.self.now.tree.now c.args.self.now.shapes.now) c.loop-connector.connector c.loop-connector.ends.items c.push.new.self.items c.is_input_beside.result c.in_ok-push.ensures.items c.is_input_beside.ensures c.loop-connector.invariant

pub reached_marks-requires-clause-ends : goal.reached_marks-requires-clause-ends
reached_marks-requires-clause-ends c =
    let f = c.requires.indexed in
    turned_within c.args.self.now.tree.now (length c.args.self.now.tree.now.connectors) c.as_slice.result.now f.whole refl (c.as_slice.ensures.value ∙ c.in_ok-turned.ensures)

pub reached_marks-requires-clause-shared : goal.reached_marks-requires-clause-shared
reached_marks-requires-clause-shared c =
    let f = c.requires.indexed in
    let n = f.points.len in
    beside_shared c.args.self.now.tree.now c.args.self.now.shapes.now c.args.self.now.points.items f.shapes f.points c.args.class c.loop-connector.ends.items
    (marked_whole c.args.self.now.tree.now (IsInputBeside c.args.class c.args.self.now.tree.now c.args.self.now.shapes.now) c.loop-connector.connector c.loop-connector.ends.items (omega (arith, n)) c.loop-connector.invariant)

pub returns : goal.returns
returns c =
    let f = c.requires.indexed in
    let t = c.args.self.now.tree.now in
    let shapes = c.args.self.now.shapes.now in
    let points = c.args.self.now.points.items in
    let ks = (turned t).connections in
    let n = f.points.len in
    if_ok (λ v. (all : List Connection) → c.as_slice.result.now ≡ map ends_of all → AreLedTo (joined t all) shapes (IsMarked c.loop-connector.ends.items) v.items) (λ v. AreLeadingOn c.args.class t shapes v.items) c.reached_marks.result
    (λ v led. led_as (turned t) shapes points (shapes_joined t ks shapes f.shapes) (numbered_joined t ks shapes points f.points) (IsInputBeside c.args.class t shapes) c.loop-connector.ends.items v.items
    (marked_whole (turned t) (IsInputBeside c.args.class t shapes) c.loop-connector.connector c.loop-connector.ends.items (omega (arith, n)) c.loop-connector.invariant) (led ks (c.as_slice.ensures.value ∙ c.in_ok-turned.ensures)))
    c.reached_marks.ensures
