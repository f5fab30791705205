use Rattle.std.proofs.Common.{length, sym, ap, ◌∙◌, subst, arith}
use Rattle.std.specs.Option.{IsSomeAnd}
use Rattle.std.proofs.lemmas.Bool.{iff_false}
use Rattle.flatten.specs.Broken.{ConnectorBreaks, IsBrokenConnector}
use Rattle.flatten.proofs.LeastLemmas.{least_here, least_not, least_all}
use Rattle.flatten.proofs.connectors.FlatTree.first_connector.Goals as goal
use Rattle.flatten.proofs.connectors.FlatTree.first_connector.Goals.{then-connector_breaks, else-connector_breaks}

pub loop-connector-preserved : goal.loop-connector-preserved
loop-connector-preserved c =
    let t = c.args.self.now.tree.now in
    let Breaks = ConnectorBreaks t c.args.self.now.shapes.now c.args.rule in
    let i = c.loop-connector.connector in
    elim c.if-connector_breaks.branch [
      | then-connector_breaks w ↦
          least_here t.connectors (λ k. k.node) Breaks c.as_slice-connectors.result.now i w.index-connectors-connector.result c.loop-connector.first c.if-connector_breaks.first c.as_slice-connectors.ensures (omega arith) w.index-connectors-connector.is
          (λ y e. subst (λ o. IsSomeAnd o (Breaks i)) e (c.connector_breaks.ensures.0 w.if-connector_breaks.true)) (w.first-is ∙ w.earlier-first.ensures) c.loop-connector.invariant
      | else-connector_breaks w ↦
          least_not t.connectors (λ k. k.node) Breaks i c.loop-connector.first c.if-connector_breaks.first
          (λ y e b. iff_false c.connector_breaks.ensures w.if-connector_breaks.false (subst (λ o. IsSomeAnd o (Breaks i)) (sym e) b)) w.first-is c.loop-connector.invariant
    ]

pub returns : goal.returns
returns c =
    let t = c.args.self.now.tree.now in
    let shapes = c.args.self.now.shapes.now in
    least_all t.connectors (λ k. k.node) (ConnectorBreaks t shapes c.args.rule) (IsBrokenConnector t shapes c.args.rule) c.loop-connector.connector c.loop-connector.first
    (let e = ap length c.as_slice-connectors.ensures in omega (arith, e)) (λ node h. (h.0, h.1)) (λ i node h. (i, h)) c.loop-connector.invariant
