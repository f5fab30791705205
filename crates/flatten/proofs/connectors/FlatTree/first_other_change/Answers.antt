use Rattle.std.proofs.Common.{length, Some, ap, ◌∙◌, arith}
use Rattle.std.proofs.lemmas.Bool.{iff_false}
use Rattle.std.proofs.lemmas.Option.{slice_get-get_or}
use Rattle.doc_tree.specs.declared.rule.FlatteningRule.TheVariants.{OtherChange}
use Rattle.flatten.specs.Rules.{Breaks, HasOtherChange}
use Rattle.flatten.proofs.BridgeLemmas.{slice_contains}
use Rattle.flatten.proofs.LeastLemmas.{least_all, least_not, least_there}
use Rattle.flatten.proofs.connectors.FlatTree.first_other_change.Goals as goal
use Rattle.flatten.proofs.connectors.FlatTree.first_other_change.Goals.{then-has_other_change, else-has_other_change}

pub loop-connection-preserved : goal.loop-connection-preserved
loop-connection-preserved c =
    let t = c.args.self.now.tree.now in
    let shapes = c.args.self.now.shapes.now in
    let i = c.loop-connection.connection in
    let e = ap length c.as_slice-connections.ensures in
    elim c.if-has_other_change.branch [
      | then-has_other_change w ↦
          least_there t.connections (λ k. k.node) (λ j k. HasOtherChange t shapes k) c.as_slice-connections.result.now i _ c.loop-connection.first c.if-has_other_change.first c.as_slice-connections.ensures (omega (arith, e))
          (λ y at. (c.has_other_change.ensures y at).0 w.if-has_other_change.true)
          (w.first-is ∙ w.earlier-first.ensures) c.loop-connection.invariant
      | else-has_other_change w ↦
          least_not t.connections (λ k. k.node) (λ j k. HasOtherChange t shapes k) i c.loop-connection.first c.if-has_other_change.first
          (λ y at. iff_false (c.has_other_change.ensures y at) w.if-has_other_change.false)
          w.first-is c.loop-connection.invariant
    ]

pub returns : goal.returns
returns c =
    let t = c.args.self.now.tree.now in
    let shapes = c.args.self.now.shapes.now in
    let e = ap length c.as_slice-connections.ensures in
    least_all t.connections (λ k. k.node) (λ j k. HasOtherChange t shapes k) (Breaks t shapes OtherChange) c.loop-connection.connection c.loop-connection.first
    (omega (arith, e)) (λ node h. (let is = h.1 in (is.0, (h.0, (slice_get-get_or t.connections is.0 h.0 is.1 ∙ ap Some is.2, h.2), h.3))))
    (λ i node h. (h.0, slice_contains t.connections i h.0 h.1.0, h.1.1, h.2)) c.loop-connection.invariant
