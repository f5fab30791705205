use Rattle.std.proofs.Common.{◌≡◌, length, get_or, refl, ap, subst, arith}
use Rattle.std.proofs.lemmas.Bool.{false≢true, iff_false}
use Rattle.flatten.specs.Broken.{TellsTooWide}
use Rattle.flatten.specs.Paths.{plain}
use Rattle.flatten.proofs.JoinedLemmas.{numbered_joined, shapes_joined}
use Rattle.flatten.proofs.RuleLemmas.{type_marks_len, wide_tells, no_wide_tells, none_more}
use Rattle.flatten.proofs.connectors.FlatTree.is_end_too_wide.Goals as goal

pub tells_too_wide-requires : goal.tells_too_wide-requires
tells_too_wide-requires c =
    let f = c.requires.indexed in
    let t = c.args.self.now.tree.now in
    let shapes = c.args.self.now.shapes.now in
    let points = c.args.self.now.points.items in
    let m = c.other-item.result in
    let items = c.deref-other-items.ensures.value in
    let n = type_marks_len (plain t) shapes points (shapes_joined t (plain t).connections shapes f.shapes) (numbered_joined t (plain t).connections shapes points f.points) c.args.marks.now.types.items c.loop-other.other-index m c.requires.marks.types
    (let e = ap length items in omega (arith, e)) (subst (λ z. m ≡ get_or z c.loop-other.other-index m) items c.other-item.is) in
    omega (arith, n)

pub returns-then-tells_too_wide : goal.returns-then-tells_too_wide
returns-then-tells_too_wide c =
    let f = c.requires.indexed in
    let t = c.args.self.now.tree.now in
    let shapes = c.args.self.now.shapes.now in
    let points = c.args.self.now.points.items in
    let m = c.other-item.result in
    let items = c.deref-other-items.ensures.value in (
      λ h. wide_tells (plain t) shapes points (shapes_joined t (plain t).connections shapes f.shapes) (numbered_joined t (plain t).connections shapes points f.points) c.args.marks.now.types.items c.args.start c.loop-other.other-index m c.args.input.now c.requires.start c.requires.marks.types
          (let e = ap length items in omega (arith, e)) (subst (λ z. m ≡ get_or z c.loop-other.other-index m) items c.other-item.is) (c.tells_too_wide.ensures.0 c.if-tells_too_wide.true),
      λ r. refl,
    )

pub loop-other-preserved : goal.loop-other-preserved
loop-other-preserved c =
    let m = c.other-item.result in
    let items = c.deref-other-items.ensures.value in
    none_more (TellsTooWide c.args.start c.args.input.now.kind) c.args.marks.now.types.items c.loop-other.other-index m (let e = ap length items in omega (arith, e)) (subst (λ z. m ≡ get_or z c.loop-other.other-index m) items c.other-item.is) c.loop-other.invariant
    (iff_false c.tells_too_wide.ensures c.if-tells_too_wide.false)

pub returns : goal.returns
returns c =
    let f = c.requires.indexed in
    let t = c.args.self.now.tree.now in
    let shapes = c.args.self.now.shapes.now in
    let points = c.args.self.now.points.items in (
      λ h. absurd (false≢true h),
      λ r. absurd (no_wide_tells (plain t) shapes points (shapes_joined t (plain t).connections shapes f.shapes) (numbered_joined t (plain t).connections shapes points f.points) c.args.marks.now.types.items c.args.start c.loop-other.other-index c.args.input.now c.requires.start c.requires.marks.types
          (let e = ap length c.deref-other-items.ensures.value in omega (arith, e)) c.loop-other.invariant r),
    )
