use Rattle.std.proofs.Common.{◌≡◌, ◌↔◌, true, false, not, is_some, Some, None, sym, ap, ◌∙◌, subst}
use Rattle.std.specs.List.{slice_get}
use Rattle.std.specs.Option.{option_copied}
use Rattle.std.proofs.lemmas.Bool.{false≢true}
use Rattle.ssd_tree.specs.declared.tree.Connection as sides
use Rattle.ssd_tree.specs.declared.tree.Connection.{Connection}
use Rattle.flatten.specs.Broken.{input_of, path_fault, tree_for}
use Rattle.flatten.specs.Indexed.{ends_of}
use Rattle.flatten.specs.Paths.{plain}
use Rattle.flatten.specs.Rules.{IsLastOf, IsOtherClass, IsTimeBased, IsTooWide}
use Rattle.flatten.proofs.BridgeLemmas.{slice_contains}
use Rattle.flatten.proofs.EndLemmas.{of_tree, read_is, ends_there, no_input, told_at, told_by}
use Rattle.flatten.proofs.JoinedLemmas.{numbered_joined, shapes_joined, whole_plain}
use Rattle.flatten.proofs.TreeForLemmas.{changed_last, of_rule, plain_has}
use Rattle.flatten.proofs.connectors.FlatTree.connection_breaks.Goals as goal

pub input_at-requires-clause-connector : goal.input_at-requires-clause-connector
input_at-requires-clause-connector c = (ends_there c.args.self.now.tree.now c.args.connection c.index-as_slice-connection.result c.requires.indexed.whole c.requires.connection (of_tree c.args.connection c.as_slice.ensures c.index-as_slice-connection.is)).1

pub is_other_class-requires-clause-start : goal.is_other_class-requires-clause-start
is_other_class-requires-clause-start c = (ends_there c.args.self.now.tree.now c.args.connection c.index-as_slice-connection.result c.requires.indexed.whole c.requires.connection (of_tree c.args.connection c.as_slice.ensures c.index-as_slice-connection.is)).0

pub is_end_too_wide-requires-clause-start : goal.is_end_too_wide-requires-clause-start
is_end_too_wide-requires-clause-start c = (ends_there c.args.self.now.tree.now c.args.connection c.index-as_slice-connection.result c.requires.indexed.whole c.requires.connection (of_tree c.args.connection c.as_slice.ensures c.index-as_slice-connection.is)).0

pub is_fed_clock-requires-clause-start : goal.is_fed_clock-requires-clause-start
is_fed_clock-requires-clause-start c = (ends_there c.args.self.now.tree.now c.args.connection c.index-as_slice-connection.result c.requires.indexed.whole c.requires.connection (of_tree c.args.connection c.as_slice.ensures c.index-as_slice-connection.is)).0

pub is_fed_clock-requires-clause-end : goal.is_fed_clock-requires-clause-end
is_fed_clock-requires-clause-end c = (ends_there c.args.self.now.tree.now c.args.connection c.index-as_slice-connection.result c.requires.indexed.whole c.requires.connection (of_tree c.args.connection c.as_slice.ensures c.index-as_slice-connection.is)).1

pub returns-in_default : goal.returns-in_default
returns-in_default c =
    let f = c.requires.indexed in
    let t = c.args.self.now.tree.now in
    let shapes = c.args.self.now.shapes.now in
    let points = c.args.self.now.points.items in
    let e = c.index-as_slice-connection.result in
    let none = sym (ap option_copied c.in_default.is) ∙ c.input_at.ensures in
    λ k at. (
      λ h. absurd (false≢true h),
      λ h. absurd (of_rule c.args.rule t (λ u. (input_of u shapes e.end ≡ None) → IsLastOf (path_fault t shapes c.args.rule) u shapes k → ⊥)
          (λ n. no_input t shapes points f.shapes f.points f.whole (path_fault t shapes c.args.rule) (ends_of e) (sym n) k (ap ends_of (read_is c.args.self.now.tree.now.connections c.args.connection (of_tree c.args.connection c.as_slice.ensures c.index-as_slice-connection.is) at)))
          (λ n. no_input (plain t) shapes points (shapes_joined t (plain t).connections shapes f.shapes) (numbered_joined t (plain t).connections shapes points f.points) (whole_plain t f.whole) (path_fault t shapes c.args.rule) (ends_of e) (sym n) k
          (ap ends_of (read_is c.args.self.now.tree.now.connections c.args.connection (of_tree c.args.connection c.as_slice.ensures c.index-as_slice-connection.is) at)))
          (of_rule c.args.rule t (λ u. input_of u shapes e.end ≡ None) (sym none) (sym none)) h),
    )

pub returns-in-OtherClass : goal.returns-in-OtherClass
returns-in-OtherClass c =
    let f = c.requires.indexed in
    let t = c.args.self.now.tree.now in
    let shapes = c.args.self.now.shapes.now in
    let named = sym (ap option_copied c.in-Some.is) ∙ c.input_at.ensures in
    subst (λ z. (k : sides.Connection) → slice_get t.connections c.args.connection ≡ Some k → (c.is_other_class.result ≡ true) ↔ IsLastOf (path_fault t shapes z) (tree_for z t) shapes k) (sym c.in-OtherClass.is)
    (λ k at. told_by t shapes c.args.self.now.points.items f.shapes f.points f.whole (IsOtherClass t shapes) (ends_of c.index-as_slice-connection.result) c.in-Some.input.now c.is_other_class.result (λ p s q r output x h. h) named c.is_other_class.ensures
    k (slice_contains t.connections c.args.connection k at) (ap ends_of (read_is c.args.self.now.tree.now.connections c.args.connection (of_tree c.args.connection c.as_slice.ensures c.index-as_slice-connection.is) at)))

pub returns-in-FedClock : goal.returns-in-FedClock
returns-in-FedClock c =
    let f = c.requires.indexed in
    let t = c.args.self.now.tree.now in
    let shapes = c.args.self.now.shapes.now in
    let named = sym (ap option_copied c.in-Some.is) ∙ c.input_at.ensures in
    subst (λ z. (k : sides.Connection) → slice_get t.connections c.args.connection ≡ Some k → (c.is_fed_clock.result ≡ true) ↔ IsLastOf (path_fault t shapes z) (tree_for z t) shapes k) (sym c.in-FedClock.is)
    (λ k at. told_at t shapes c.args.self.now.points.items f.shapes f.points f.whole (IsTimeBased shapes) (ends_of c.index-as_slice-connection.result) c.in-Some.input.now c.is_fed_clock.result named c.is_fed_clock.ensures
    k (slice_contains t.connections c.args.connection k at) (ap ends_of (read_is c.args.self.now.tree.now.connections c.args.connection (of_tree c.args.connection c.as_slice.ensures c.index-as_slice-connection.is) at)))

pub returns-then-is_none : goal.returns-then-is_none
returns-then-is_none c =
    let f = c.requires.indexed in
    let t = c.args.self.now.tree.now in
    let shapes = c.args.self.now.shapes.now in
    let points = c.args.self.now.points.items in
    let e = c.index-as_slice-connection.result in
    let read = of_tree c.args.connection c.as_slice.ensures c.index-as_slice-connection.is in
    let named = sym (ap option_copied c.in-Some.is) ∙ c.input_at.ensures in
    let none : is_some e.change ≡ false = c.is_none.ensures ∙ ap not c.if-is_none.true in
    subst (λ z. (k : sides.Connection) → slice_get t.connections c.args.connection ≡ Some k → (c.is_end_too_wide.result ≡ true) ↔ IsLastOf (path_fault t shapes z) (tree_for z t) shapes k) (sym c.in-TooWide.is)
    (λ k at.
    told_by (plain t) shapes points (shapes_joined t (plain t).connections shapes f.shapes) (numbered_joined t (plain t).connections shapes points f.points) (whole_plain t f.whole) IsTooWide (ends_of e) c.in-Some.input.now c.is_end_too_wide.result
    (λ p s q r output x h. h) named c.is_end_too_wide.ensures k
    (plain_has t k (slice_contains t.connections c.args.connection k at) (ap (λ (z : Connection). is_some z.change) (sym (read_is t.connections c.args.connection read at)) ∙ none)) (ap ends_of (read_is t.connections c.args.connection read at)))

pub returns-else-is_none : goal.returns-else-is_none
returns-else-is_none c =
    let t = c.args.self.now.tree.now in
    let shapes = c.args.self.now.shapes.now in
    let e = c.index-as_slice-connection.result in
    let read = of_tree c.args.connection c.as_slice.ensures c.index-as_slice-connection.is in
    let some : is_some e.change ≡ true = c.is_none.ensures ∙ ap not c.if-is_none.false in
    subst (λ z. (k : sides.Connection) → slice_get t.connections c.args.connection ≡ Some k → (c.is_none.result ≡ true) ↔ IsLastOf (path_fault t shapes z) (tree_for z t) shapes k) (sym c.in-TooWide.is)
    (λ k at. (
      λ h. absurd (false≢true (sym c.if-is_none.false ∙ h)),
      λ h. absurd (changed_last t IsTooWide shapes k (ap (λ (z : Connection). is_some z.change) (sym (read_is t.connections c.args.connection read at)) ∙ some) h),
    ))
