use Rattle.std.proofs.Common.{◌≡◌, ◌+◌, ◌++◌, [], ◌∷◌, sym, ◌∙◌, ap, subst, map, take, get_or}
use Rattle.std.specs.List.{All, filter_map}
use Rattle.std.specs.Prelude.{None, slice_get, if◌then◌else◌}
use Rattle.std.proofs.lemmas.List.{take_all}
use Rattle.std.proofs.lemmas.List.Elements.{All-push}
use Rattle.std.proofs.lemmas.Option.{get_or_from_slice_get, slice_get-get_or}
use Rattle.value_types.specs.Shape.{is_port}
use Rattle.value_types.specs.declared.shape.Shape.{Shape}
use Rattle.value_types.specs.declared.shape.Variable.{Variable}
use Rattle.system_model.specs.Ports.{label_at, label_of}
use Rattle.flatten.specs.Ports.{IsMade, IsPortOf}
use Rattle.flatten.proofs.MadeLemmas.{labels_at_is, none_more, one_more}
use Rattle.flatten.proofs.connectors.FlatTree.add_ports.Goals as goal
use Rattle.flatten.proofs.connectors.FlatTree.add_ports.Goals.{in-Some+in_ok-port+in_ok-push, in_default}

pub loop-place-preserved : goal.loop-place-preserved
loop-place-preserved c =
    elim c.match-port_type.branch [
      | in-Some+in_ok-port+in_ok-push w ↦
          let shapes = c.args.self.now.shapes.now in
          let table = c.args.table.now in
          let i = c.args.component in
          let k = c.loop-place.place in
          let xs = c.as_slice-variables.result.now in
          let port = w.in_ok-port.field-0 in
          let m = w.in_ok-port.ensures in
          let d = c.index-variables-place.result in
          let items : c.match-port_type.ports.items ≡ c.loop-place.ports.items ++ port ∷ [] = ap (λ v. v.items) w.ports-is ∙ w.in_ok-push.ensures.items in
          let listed : xs ≡ m.shape.variables = c.as_slice-variables.ensures ∙ ap (λ (z : Shape). z.variables) (get_or_from_slice_get shapes i m.shape c.index-self-component.result m.of) in
          let same : m.variable ≡ get_or xs k d = sym (get_or_from_slice_get xs k m.variable d (ap (λ ys. slice_get ys k) listed ∙ m.at)) in
          record {
            labels = subst (λ zs. map label_of zs ≡ map label_of c.args.ports.now.items ++ filter_map (label_at i) (take (k + 1) xs)) (sym items)
                (one_more shapes table i xs k d (map label_of c.args.ports.now.items) c.loop-place.ports.items port c.loop-place-test.true m same c.loop-place.invariant.labels);
            made = λ all. subst (All (IsMade shapes table)) (sym items)
                (All-push (IsMade shapes table) c.loop-place.ports.items port (c.loop-place.invariant.made all) (k, subst (λ n. IsPortOf shapes table n k port) (sym m.number) m));
          }
      | in_default w ↦
          let shapes = c.args.self.now.shapes.now in
          let table = c.args.table.now in
          let i = c.args.component in
          let k = c.loop-place.place in
          let xs = c.as_slice-variables.result.now in
          let items : c.match-port_type.ports.items ≡ c.loop-place.ports.items = ap (λ v. v.items) w.ports-is in
          record {
            labels = subst (λ zs. map label_of zs ≡ map label_of c.args.ports.now.items ++ filter_map (label_at i) (take (k + 1) xs)) (sym items)
                (none_more i xs k c.index-variables-place.result (map label_of c.args.ports.now.items) (map label_of c.loop-place.ports.items) c.loop-place-test.true
                (subst (λ (y : Variable). (if is_port y then y.kind else None) ≡ None) c.index-variables-place.is (sym c.port_type.ensures ∙ w.in_default.is)) c.loop-place.invariant.labels);
            made = λ all. subst (All (IsMade shapes table)) (sym items) (c.loop-place.invariant.made all);
          }
    ]

pub returns-clause-labels : goal.returns-clause-labels
returns-clause-labels c =
    let shapes = c.args.self.now.shapes.now in
    let i = c.args.component in
    let at = slice_get-get_or shapes i c.index-self-component.result c.requires.component in
    c.loop-place.invariant.labels ∙ ap (λ zs. map label_of c.args.ports.now.items ++ zs)
    (ap (filter_map (label_at i)) (take_all c.loop-place.place c.as_slice-variables.result.now c.loop-place-test.false ∙ c.as_slice-variables.ensures) ∙ sym (labels_at_is shapes i _ at))
