use Rattle.std.proofs.Common.{length, ap, ◌∙◌, arith}
use Rattle.std.proofs.lemmas.Bool.{iff_false}
use Rattle.flatten.specs.Rules.{HasNoSavedState, IsUnsaved}
use Rattle.flatten.proofs.LeastLemmas.{least_here, least_not, least_all}
use Rattle.flatten.proofs.connectors.FlatTree.first_unsaved.Goals as goal
use Rattle.flatten.proofs.connectors.FlatTree.first_unsaved.Goals.{then-is_unsaved, else-is_unsaved}

pub loop-component-preserved : goal.loop-component-preserved
loop-component-preserved c =
    let t = c.args.self.now.tree.now in
    let shapes = c.args.self.now.shapes.now in
    let i = c.loop-component.component in
    elim c.if-is_unsaved.branch [
      | then-is_unsaved w ↦
          least_here t.components (λ k. k.node) (λ j k. IsUnsaved shapes j) w.as_slice.result.now i w.index-as_slice-component.result c.loop-component.first c.if-is_unsaved.first w.as_slice.ensures
          (let l = ap length w.as_slice.ensures in let n = c.requires.indexed.shapes.len in omega (arith, l, n)) w.index-as_slice-component.is
          (λ y e. c.is_unsaved.ensures.0 w.if-is_unsaved.true) (w.first-is ∙ w.earlier-first.ensures) c.loop-component.invariant
      | else-is_unsaved w ↦
          least_not t.components (λ k. k.node) (λ j k. IsUnsaved shapes j) i c.loop-component.first c.if-is_unsaved.first
          (λ y e b. iff_false c.is_unsaved.ensures w.if-is_unsaved.false b) w.first-is c.loop-component.invariant
    ]

pub returns : goal.returns
returns c =
    let t = c.args.self.now.tree.now in
    let shapes = c.args.self.now.shapes.now in
    least_all t.components (λ k. k.node) (λ j k. IsUnsaved shapes j) (HasNoSavedState t shapes) c.loop-component.component c.loop-component.first
    (let n = c.requires.indexed.shapes.len in omega (arith, n)) (λ node h. (h.0, (h.1.0, (h.1.1, h.1.2), h.1.3))) (λ i node h. (i, (h.0, h.1.0, h.1.1, h.2))) c.loop-component.invariant
