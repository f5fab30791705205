use Rattle.std.proofs.Common.{◌≡◌, ◌-◌, ◌<◌, List, [], ◌∷◌, ◌++◌, length, get_or, drop, reverse, Some, None, refl, sym, ap, ◌∙◌, arith, append-nil}
use Rattle.std.specs.List.{filter_map, slice_get}
use Rattle.std.proofs.lemmas.Option.{slice_get-get_or}
use Rattle.parameter_values.specs.declared.change.Change.{Change}
use Rattle.ssd_tree.specs.declared.tree.Connection.{Connection}
use Rattle.flatten.specs.Ways.{change_at}
use Rattle.flatten.proofs.WayLemmas.{change_here, changes_more}
use Rattle.flatten.proofs.connectors.FlatTree.changes_of.Goals as goal
use Rattle.flatten.proofs.connectors.FlatTree.changes_of.Goals.{in-Some+in_ok-copy+in_ok-push, in_default}

pub loop-i-preserved : goal.loop-i-preserved
loop-i-preserved c =
    let t = c.args.self.now.tree.now in
    let back = c.args.back.now in
    let i = c.loop-i.i in
    let k = get_or back (length back - 1 - i) 0 in
    let within : i < length back = c.loop-i-test.true in
    let here : k < length t.connections = c.requires.back (length back - 1 - i) 0 (omega (arith, within)) in
    let e = c.index-as_slice-connection.result in
    let at : slice_get t.connections k ≡ Some e =
    slice_get-get_or t.connections k e here ∙ ap Some (sym (c.index-as_slice-connection.is ∙ ap (λ (xs : List Connection). get_or xs k e) c.as_slice.ensures)) in
    let so_far : List Change = filter_map (change_at t) (reverse (drop (length back - i) back)) in
    let more = changes_more t back i k within refl in
    elim c.match-as_slice-connection.branch [
      | in-Some+in_ok-copy+in_ok-push w ↦ record {
        up_to = omega (arith, within);
        made = ap (λ z. z.items) w.changes-is ∙ w.in_ok-push.ensures.items ∙ ap (λ (zs : List Change). zs ++ w.in_ok-copy.field-0 ∷ []) c.loop-i.invariant.made
            ∙ ap (λ (zs : List Change). filter_map (change_at t) (reverse (drop (length back - i) back)) ++ zs) (sym (change_here t k e (Some w.in_ok-copy.field-0) at (ap (λ (z : Connection). z.change) c.index-as_slice-connection.is ∙ w.in-Some.is ∙ ap Some (sym w.in_ok-copy.ensures)))) ∙ sym more;
      }
      | in_default w ↦ record {
        up_to = omega (arith, within);
        made = ap (λ z. z.items) w.changes-is ∙ c.loop-i.invariant.made ∙ sym (append-nil (filter_map (change_at t) (reverse (drop (length back - i) back))))
            ∙ ap (λ (zs : List Change). filter_map (change_at t) (reverse (drop (length back - i) back)) ++ zs) (sym (change_here t k e None at (ap (λ (z : Connection). z.change) c.index-as_slice-connection.is ∙ w.in_default.is))) ∙ sym more;
      }
    ]
