use Rattle.std.proofs.Common.{get_or, false, sym, ◌∙◌, arith}
use Rattle.std.proofs.lemmas.Bool.{false≢true}
use Rattle.std.proofs.lemmas.List.{get_or_read}
use Rattle.std.proofs.lemmas.Option.{slice_get-get_or}
use Rattle.ssd_tree.specs.declared.tree.Owner.TheVariants.{System, Component}
use Rattle.flatten.proofs.BridgeLemmas.{at_place}
use Rattle.flatten.proofs.RuleLemmas.{owner_there, component_within, point_named, point_of_system, clock_broken, clock_marked, no_clock}
use Rattle.flatten.proofs.connectors.FlatTree.is_fed_clock.Goals as goal

pub returns-then-index : goal.returns-then-index
returns-then-index c =
    let f = c.requires.indexed in
    let t = c.args.self.now.tree.now in
    let shapes = c.args.self.now.shapes.now in
    let i = c.in-Component.component in
    let fed = c.requires.marks.fed in
    let n = fed.len in
    let marked = sym (get_or_read c.args.marks.now.fed.items c.args.start c.index.result.now (omega (arith, n)) c.index.ensures false) ∙ c.if-index.true in
    let k = owner_there t.connectors c.as_slice.result.now c.args.end _ (Component i) c.as_slice.ensures c.requires.end c.in-Component.is in
    let l = component_within t c.args.end i k.0 f.whole k.1 k.2 in
    let m = f.shapes.len in
    let at = slice_get-get_or shapes i c.index-self-component.result (omega (arith, l, m)) in
    let point = point_named t shapes c.args.self.now.points.items f.shapes f.points c.args.end i k.0 c.args.input.now k.1 k.2 c.requires.input in (
      λ h. clock_broken t shapes c.args.self.now.points.items f.shapes f.points c.args.start c.args.end i (get_or shapes i c.index-self-component.result) c.args.input.now at point ((fed.each c.args.start c.requires.start).0 marked) (c.is_time_based.ensures.0 h),
      λ r. c.is_time_based.ensures.1 (clock_marked t shapes c.args.self.now.points.items f.shapes f.points c.args.start c.args.end i (get_or shapes i c.index-self-component.result) c.args.input.now at point r).1,
    )

pub returns-else-index : goal.returns-else-index
returns-else-index c =
    let f = c.requires.indexed in
    let t = c.args.self.now.tree.now in
    let shapes = c.args.self.now.shapes.now in
    let i = c.in-Component.component in
    let fed = c.requires.marks.fed in
    let n = fed.len in
    let unmarked = sym (get_or_read c.args.marks.now.fed.items c.args.start c.index.result.now (omega (arith, n)) c.index.ensures false) ∙ c.if-index.false in
    let k = owner_there t.connectors c.as_slice.result.now c.args.end _ (Component i) c.as_slice.ensures c.requires.end c.in-Component.is in
    let l = component_within t c.args.end i k.0 f.whole k.1 k.2 in
    let m = f.shapes.len in
    let s = at_place shapes i (omega (arith, l, m)) in
    let point = point_named t shapes c.args.self.now.points.items f.shapes f.points c.args.end i k.0 c.args.input.now k.1 k.2 c.requires.input in (
      λ h. absurd (false≢true (sym c.if-index.false ∙ h)),
      λ r. absurd (false≢true (sym unmarked ∙ (fed.each c.args.start c.requires.start).1 (clock_marked t shapes c.args.self.now.points.items f.shapes f.points c.args.start c.args.end i s.0 c.args.input.now s.1 point r).0)),
    )

pub returns-in-System : goal.returns-in-System
returns-in-System c =
    let f = c.requires.indexed in
    let t = c.args.self.now.tree.now in
    let shapes = c.args.self.now.shapes.now in
    let k = owner_there t.connectors c.as_slice.result.now c.args.end _ (System c.in-System.field-0) c.as_slice.ensures c.requires.end c.in-System.is in
    let point = point_of_system t shapes c.args.self.now.points.items f.shapes f.points c.args.end c.in-System.field-0 k.0 k.1 k.2 in
    (λ h. absurd (false≢true h), λ r. absurd (no_clock t shapes c.args.self.now.points.items f.shapes f.points c.args.start c.args.end c.args.input.now point r))
