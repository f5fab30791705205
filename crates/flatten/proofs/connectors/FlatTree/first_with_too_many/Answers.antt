use Rattle.std.proofs.Common.{◌≡◌, ◌+◌, ◌<◌, length, get_or, ◌-◌, ◌^◌, map, min, sum, take, sym, ap, ◌∙◌, arith}
use Rattle.std.proofs.lemmas.List.Sums.{sum-map, sum_by_more}
use Rattle.flatten.specs.Rules.{HasTooManyPorts, ports_in}
use Rattle.flatten.proofs.LeastLemmas.{least_here, least_not, least_all}
use Rattle.flatten.proofs.connectors.FlatTree.first_with_too_many.Goals as goal
use Rattle.flatten.proofs.connectors.FlatTree.first_with_too_many.Goals.{then-count-gt-MOST_PORTS, else-count-gt-MOST_PORTS}

pub loop-component-preserved : goal.loop-component-preserved
loop-component-preserved c =
    let t = c.args.self.now.tree.now in
    let shapes = c.args.self.now.shapes.now in
    let i = c.loop-component.component in
    let was = c.loop-component.invariant in
    let one = sum-map ports_in (take (i + 1) shapes) ∙ sum_by_more ports_in shapes i c.index-self-component.result (omega arith) ∙ ap (λ n. n + ports_in (get_or shapes i c.index-self-component.result)) (sym (sum-map ports_in (take i shapes))) in
    let counted : c.saturating_add-count.result ≡ min (sum (map ports_in (take (i + 1) shapes))) (2 ^ 64 - 1) = (
    let a = c.saturating_add-count.ensures in
    let b = c.ports_in.ensures in
    let d = was.count in
    omega (arith, a, b, d, one)) in
    record {
      count = counted;
      first = elim c.if-count-gt-MOST_PORTS.branch [
        | then-count-gt-MOST_PORTS w ↦
            least_here t.components (λ k. k.node) (λ j k. 65536 < sum (map ports_in (take (j + 1) shapes))) w.as_slice.result.now i w.index-as_slice-component.result c.loop-component.first c.if-count-gt-MOST_PORTS.first w.as_slice.ensures
            (let l = ap length w.as_slice.ensures in let n = c.requires.indexed.shapes.len in omega (arith, l, n)) w.index-as_slice-component.is (λ y e. let m = w.if-count-gt-MOST_PORTS.true in omega (arith, m, counted)) (w.first-is ∙ w.earlier-first.ensures) was.first
        | else-count-gt-MOST_PORTS w ↦
            least_not t.components (λ k. k.node) (λ j k. 65536 < sum (map ports_in (take (j + 1) shapes))) i c.loop-component.first c.if-count-gt-MOST_PORTS.first
            (λ y e m. let g = w.if-count-gt-MOST_PORTS.false in absurd (omega (arith, g, m, counted))) w.first-is was.first
      ];
    }

pub returns : goal.returns
returns c =
    let t = c.args.self.now.tree.now in
    let shapes = c.args.self.now.shapes.now in
    least_all t.components (λ k. k.node) (λ j k. 65536 < sum (map ports_in (take (j + 1) shapes))) (HasTooManyPorts t shapes) c.loop-component.component c.loop-component.first
    (let n = c.requires.indexed.shapes.len in omega (arith, n)) (λ node h. (h.0, (h.1.0, (h.1.1, h.1.2), h.1.3))) (λ i node h. (i, (h.0, h.1.0, h.1.1, h.2))) c.loop-component.invariant.first
