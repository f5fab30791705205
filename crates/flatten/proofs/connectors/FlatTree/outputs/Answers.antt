use Rattle.std.proofs.Common.{arith}
use Rattle.flatten.specs.Marks.{IsOutputAt}
use Rattle.flatten.proofs.MarkLemmas.{marked_more, marked_whole}
use Rattle.flatten.proofs.connectors.FlatTree.outputs.Goals as goal

pub loop-connector-preserved : goal.loop-connector-preserved
loop-connector-preserved c =
    marked_more (IsOutputAt c.args.self.now.tree.now c.args.self.now.shapes.now) c.loop-connector.connector c.loop-connector.outputs.items c.push.new.self.items c.is_output.result c.in_ok-push.ensures.items c.is_output.ensures c.loop-connector.invariant

pub returns : goal.returns
returns c =
    let n = c.requires.points.len in
    marked_whole c.args.self.now.tree.now (IsOutputAt c.args.self.now.tree.now c.args.self.now.shapes.now) c.loop-connector.connector c.loop-connector.outputs.items (omega (arith, n)) c.loop-connector.invariant
