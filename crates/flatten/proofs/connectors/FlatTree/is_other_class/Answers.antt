use Rattle.std.proofs.Common.{◌≡◌, ℕ, ◌<◌, length, get_or, None, false, refl, sym, ap, ◌∙◌, subst, arith}
use Rattle.dependency_order.specs.Paths.{IsMarked}
use Rattle.std.proofs.lemmas.Bool.{false≢true, iff_false}
use Rattle.std.proofs.lemmas.List.{get_or_read}
use Rattle.flatten.specs.declared.marks.ClassMarks.{ClassMarks}
use Rattle.flatten.specs.Broken.{TellsOther}
use Rattle.flatten.proofs.RuleLemmas.{class_marks_len, other_tells, no_other_tells, ignored_fed, none_is, not_none, none_more}
use Rattle.flatten.proofs.connectors.FlatTree.is_other_class.Goals as goal
use Rattle.flatten.proofs.connectors.FlatTree.is_other_class.Goals.{else-is_none-via-then-is_none+else-index, else-is_none-via-else-is_none}

pub tells_other-requires : goal.tells_other-requires
tells_other-requires c =
    let f = c.requires.indexed in
    let m = c.other-item.result in
    let items = c.deref-other-items.ensures.value in
    let n = class_marks_len c.args.self.now.tree.now c.args.self.now.shapes.now c.args.self.now.points.items f.shapes f.points c.args.marks.now.classes.items c.loop-other.other-index m c.requires.marks.classes
    (let e = ap length items in omega (arith, e)) (subst (λ z. m ≡ get_or z c.loop-other.other-index m) items c.other-item.is) in
    omega (arith, n)

pub returns-then-tells_other : goal.returns-then-tells_other
returns-then-tells_other c =
    let f = c.requires.indexed in
    let m = c.other-item.result in
    let items = c.deref-other-items.ensures.value in (
      λ h. other_tells c.args.self.now.tree.now c.args.self.now.shapes.now c.args.self.now.points.items f.shapes f.points c.args.marks.now.classes.items c.args.start c.loop-other.other-index m c.args.input.now c.requires.start c.requires.marks.classes
          (let e = ap length items in omega (arith, e)) (subst (λ z. m ≡ get_or z c.loop-other.other-index m) items c.other-item.is) (subst (λ z. TellsOther c.args.start z m) c.class_at-wanted.ensures (c.tells_other.ensures.0 c.if-tells_other.true)),
      λ r. refl,
    )

pub loop-other-preserved : goal.loop-other-preserved
loop-other-preserved c =
    let m = c.other-item.result in
    let items = c.deref-other-items.ensures.value in
    none_more (TellsOther c.args.start c.class_at-wanted.result) c.args.marks.now.classes.items c.loop-other.other-index m (let e = ap length items in omega (arith, e)) (subst (λ z. m ≡ get_or z c.loop-other.other-index m) items c.other-item.is) c.loop-other.invariant
    (iff_false c.tells_other.ensures c.if-tells_other.false)

pub returns-then-index : goal.returns-then-index
returns-then-index c =
    let f = c.requires.indexed in
    let fed = c.requires.marks.fed in
    let n = fed.len in
    let marked = sym (get_or_read c.args.marks.now.fed.items c.args.start c.index.result.now (omega (arith, n)) c.index.ensures false) ∙ c.if-index.true in (
      λ h. ignored_fed c.args.self.now.tree.now c.args.self.now.shapes.now c.args.self.now.points.items f.shapes f.points c.args.marks.now.fed.items c.args.start c.args.input.now c.requires.start fed
          (none_is c.args.input.now.kind c.is_none.result c.is_none.ensures c.if-is_none.true) marked,
      λ r. refl,
    )

pub returns : goal.returns
returns c =
    let f = c.requires.indexed in
    let fed = c.requires.marks.fed in
    let n = fed.len in
    let ignored : c.args.input.now.kind ≡ None → IsMarked c.args.marks.now.fed.items c.args.start → ⊥ = λ none marked. elim c.else-is_none.branch [
      | else-is_none-via-then-is_none+else-index w ↦
          false≢true (sym w.if-index.false ∙ get_or_read c.args.marks.now.fed.items c.args.start w.index.result.now (omega (arith, n)) w.index.ensures false ∙ marked)
      | else-is_none-via-else-is_none w ↦ not_none c.args.input.now.kind c.is_none.result c.is_none.ensures w.if-is_none.false none
    ] in (
      λ h. absurd (false≢true h),
      λ r. absurd (no_other_tells c.args.self.now.tree.now c.args.self.now.shapes.now c.args.self.now.points.items f.shapes f.points c.args.marks.now.classes.items c.args.marks.now.fed.items c.args.start c.loop-other.other-index c.args.input.now c.requires.start c.requires.marks.classes fed
          ignored (let e = ap length c.deref-other-items.ensures.value in omega (arith, e))
          (subst (λ z. (j : ℕ) (m : ClassMarks) → j < c.loop-other.other-index → TellsOther c.args.start z (get_or c.args.marks.now.classes.items j m) → ⊥) c.class_at-wanted.ensures c.loop-other.invariant) r),
    )
