use Rattle.std.proofs.Common.{◌≡◌, ◌↔◌, true, false, Some, None, get_or, sym, ap, ◌∙◌, subst, arith}
use Rattle.std.proofs.lemmas.Bool.{false≢true}
use Rattle.std.proofs.lemmas.List.{get_or_read}
use Rattle.ssd_tree.specs.declared.tree.Connection.{Connection}
use Rattle.flatten.specs.Marks.{beside_marks}
use Rattle.flatten.specs.Rules.{HasOtherChange}
use Rattle.flatten.proofs.ChangeLemmas.{marks_beside, told, unfed}
use Rattle.flatten.proofs.EndLemmas.{end_marked, ends_there, of_tree, read_is}
use Rattle.flatten.proofs.connectors.FlatTree.has_other_change.Goals as goal

pub returns-in_default : goal.returns-in_default
returns-in_default c =
    let e = c.index-as_slice-connection.result in
    let i = c.args.connection in
    let read = of_tree i c.as_slice.ensures c.index-as_slice-connection.is in
    let none : e.change ≡ None = c.in_default.is in
    λ k at. (
      λ h. absurd (false≢true h),
      λ h. absurd (let un : None ≡ Some h.0 = sym none ∙ ap (λ (z : Connection). z.change) (read_is c.args.self.now.tree.now.connections i read at) ∙ h.1 in cc),
    )

pub leads_to_other-requires-clause-integers : goal.leads_to_other-requires-clause-integers
leads_to_other-requires-clause-integers c =
    end_marked c.args.self.now.tree.now c.args.connection c.index-as_slice-connection.result c.requires.indexed.whole c.requires.connection
    (of_tree c.args.connection c.as_slice.ensures c.index-as_slice-connection.is) c.requires.marks.no_integers.len

pub leads_to_other-requires-clause-booleans : goal.leads_to_other-requires-clause-booleans
leads_to_other-requires-clause-booleans c =
    end_marked c.args.self.now.tree.now c.args.connection c.index-as_slice-connection.result c.requires.indexed.whole c.requires.connection
    (of_tree c.args.connection c.as_slice.ensures c.index-as_slice-connection.is) c.requires.marks.no_booleans.len

pub returns-then-index : goal.returns-then-index
returns-then-index c =
    let f = c.requires.indexed in
    let t = c.args.self.now.tree.now in
    let shapes = c.args.self.now.shapes.now in
    let points = c.args.self.now.points.items in
    let e = c.index-as_slice-connection.result in
    let i = c.args.connection in
    let fed = c.requires.marks.fed in
    let len = fed.len in
    let read : e ≡ get_or t.connections i e = of_tree i c.as_slice.ensures c.index-as_slice-connection.is in
    let ends = ends_there t i e f.whole c.requires.connection read in
    let start = ends.0 in
    let end = ends.1 in
    let change = c.in-Some.change in
    let has : e.change ≡ Some change = c.in-Some.is in
    let marked = sym (get_or_read c.args.marks.now.fed.items e.start c.index.result.now (omega (arith, len, start)) c.index.ensures false) ∙ c.if-index.true in
    λ k at. subst (λ (z : Connection). (c.leads_to_other.result ≡ true) ↔ HasOtherChange t shapes z) (read_is t.connections i read at)
    (told t shapes points f.shapes f.points e change has (i, c.requires.connection, sym read) c.args.marks.now.fed.items (beside_marks c.args.marks.now change) fed (marks_beside t shapes c.args.marks.now change c.requires.marks) start end marked
    c.leads_to_other.result (sym c.leads_to_other.ensures))

pub returns-else-index : goal.returns-else-index
returns-else-index c =
    let f = c.requires.indexed in
    let t = c.args.self.now.tree.now in
    let shapes = c.args.self.now.shapes.now in
    let points = c.args.self.now.points.items in
    let e = c.index-as_slice-connection.result in
    let i = c.args.connection in
    let fed = c.requires.marks.fed in
    let len = fed.len in
    let read : e ≡ get_or t.connections i e = of_tree i c.as_slice.ensures c.index-as_slice-connection.is in
    let ends = ends_there t i e f.whole c.requires.connection read in
    let start = ends.0 in
    let unmarked = sym (get_or_read c.args.marks.now.fed.items e.start c.index.result.now (omega (arith, len, start)) c.index.ensures false) ∙ c.if-index.false in
    λ k at. (
      λ h. absurd (false≢true (sym c.if-index.false ∙ h)),
      λ h. absurd (unfed t shapes points f.shapes f.points e c.args.marks.now.fed.items fed start (λ is. false≢true (sym unmarked ∙ is))
          (subst (λ (z : Connection). HasOtherChange t shapes z) (sym (read_is t.connections i read at)) h)),
    )
