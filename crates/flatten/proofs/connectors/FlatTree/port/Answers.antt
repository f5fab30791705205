use Rattle.std.proofs.Common.{◌≡◌, refl, sym, ◌∙◌, ap, subst}
use Rattle.std.specs.Prelude.{slice_get, IsSomeAnd, Some, true}
use Rattle.std.specs.List.{AllZip}
use Rattle.std.specs.Option.{option_copied}
use Rattle.std.proofs.lemmas.Option.{get_or_from_slice_get}
use Rattle.value_types.specs.Shape.{is_port}
use Rattle.value_types.specs.declared.shape.Shape.{Shape}
use Rattle.value_types.specs.declared.shape.Variable.{Variable}
use Rattle.system_model.specs.Sound.{IsRole}
use Rattle.flatten.specs.Ports.{IsPortUnder, at_number}
use Rattle.flatten.specs.Flat.{IsSourceWith}
use Rattle.flatten.proofs.RoleLemmas.{some_of}
use Rattle.flatten.proofs.connectors.FlatTree.port.Goals as goal
use Rattle.flatten.proofs.connectors.FlatTree.port.Goals.{in-None, in-Some+in_ok-copy-in-Some}

pub returns : goal.returns
returns c =
    let shapes = c.args.self.now.shapes.now in
    let s = some_of (slice_get shapes c.args.component) (λ (z : Shape). IsSomeAnd (slice_get z.variables c.args.place) (λ (x : Variable). (is_port x ≡ true) × (x.kind ≡ Some c.args.kind))) c.requires.place in
    let x = some_of (slice_get s.0.variables c.args.place) (λ (x : Variable). (is_port x ≡ true) × (x.kind ≡ Some c.args.kind)) s.2 in
    let shape_is = get_or_from_slice_get shapes c.args.component s.0 c.index-self-component.result s.1 in
    let listed : c.as_slice.result.now ≡ s.0.variables = c.as_slice.ensures ∙ ap (λ (z : Shape). z.variables) shape_is in
    let x_is : c.index-as_slice-place.result ≡ x.0 =
    c.index-as_slice-place.is ∙ get_or_from_slice_get c.as_slice.result.now c.args.place x.0 c.index-as_slice-place.result (ap (λ ys. slice_get ys c.args.place) listed ∙ x.1) in
    let feed = c.match-get.feed in
    let copied : option_copied c.get.result ≡ feed = elim c.match-get.branch [
      | in-Some+in_ok-copy-in-Some w ↦ ap option_copied w.in-Some.is ∙ ap Some (sym w.in_ok-copy-in-Some.ensures) ∙ sym w.feed-is
      | in-None w ↦ ap option_copied w.in-None.is ∙ sym w.feed-is
    ] in
    let clocks : c.as_slice-2.result.now ≡ x.0.clocks = c.as_slice-2.ensures ∙ ap (λ (y : Variable). y.clocks) x_is in
    record {
      shape = s.0;
      variable = x.0;
      feed = feed;
      number = refl;
      of = s.1;
      at = x.1;
      is = x.2.0;
      name = c.in_ok-copy.ensures ∙ ap (λ (y : Variable). y.name) x_is;
      kind = x.2.1;
      reference = ap (λ (y : Variable). y.reference) x_is;
      role = subst (λ (y : Variable). IsRole s.0 y c.role.result) x_is (subst (λ (z : Shape). IsRole z c.index-as_slice-place.result c.role.result) shape_is c.role.ensures.role);
      fed = ap (at_number c.args.table.now.feeds) (sym c.number_at.ensures.number) ∙ sym c.get.ensures.value ∙ copied;
      source = subst (λ (y : Variable). IsSourceWith s.0 y feed c.role.result) x_is
          (subst (λ (z : Shape). IsSourceWith z c.index-as_slice-place.result feed c.role.result) shape_is c.role.ensures.source);
      clocks = subst (λ zs. AllZip (IsPortUnder shapes c.args.component) zs c.in_ok-clocks.field-0) clocks c.in_ok-clocks.ensures;
    }
