use Rattle.std.proofs.Common.{length, Some, ap, ◌∙◌, arith}
use Rattle.std.proofs.lemmas.Bool.{iff_false}
use Rattle.std.proofs.lemmas.Option.{slice_get-get_or}
use Rattle.flatten.specs.Broken.{IsBrokenConnection, path_fault, tree_for}
use Rattle.flatten.specs.Rules.{IsLastOf}
use Rattle.flatten.proofs.LeastLemmas.{least_all, least_not, least_there}
use Rattle.flatten.proofs.TreeForLemmas.{tree_holds}
use Rattle.flatten.proofs.connectors.FlatTree.first_connection.Goals as goal
use Rattle.flatten.proofs.connectors.FlatTree.first_connection.Goals.{then-connection_breaks, else-connection_breaks}

pub loop-connection-preserved : goal.loop-connection-preserved
loop-connection-preserved c =
    let t = c.args.self.now.tree.now in
    let shapes = c.args.self.now.shapes.now in
    let i = c.loop-connection.connection in
    let e = ap length c.as_slice-connections.ensures in
    elim c.if-connection_breaks.branch [
      | then-connection_breaks w ↦
          least_there t.connections (λ k. k.node) (λ j k. IsLastOf (path_fault t shapes c.args.rule) (tree_for c.args.rule t) shapes k) c.as_slice-connections.result.now i _ c.loop-connection.first c.if-connection_breaks.first c.as_slice-connections.ensures (omega (arith, e))
          (λ y at. (c.connection_breaks.ensures y at).0 w.if-connection_breaks.true)
          (w.first-is ∙ w.earlier-first.ensures) c.loop-connection.invariant
      | else-connection_breaks w ↦
          least_not t.connections (λ k. k.node) (λ j k. IsLastOf (path_fault t shapes c.args.rule) (tree_for c.args.rule t) shapes k) i c.loop-connection.first c.if-connection_breaks.first
          (λ y at. iff_false (c.connection_breaks.ensures y at) w.if-connection_breaks.false)
          w.first-is c.loop-connection.invariant
    ]

pub returns : goal.returns
returns c =
    let t = c.args.self.now.tree.now in
    let shapes = c.args.self.now.shapes.now in
    let e = ap length c.as_slice-connections.ensures in
    least_all t.connections (λ k. k.node) (λ j k. IsLastOf (path_fault t shapes c.args.rule) (tree_for c.args.rule t) shapes k) (IsBrokenConnection t shapes c.args.rule) c.loop-connection.connection c.loop-connection.first
    (omega (arith, e)) (λ node h. (let is = tree_holds c.args.rule t h.0 h.2.1.1.1.1.1.last.is in (is.0, (h.0, (slice_get-get_or t.connections is.0 h.0 is.1 ∙ ap Some is.2, h.1), h.2)))) (λ i node h. (h.0, h.1.1, h.2)) c.loop-connection.invariant
