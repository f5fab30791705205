use Rattle.std.proofs.Common.{◌≡◌, ◌<◌, ◌+◌, ◌-◌, [], length, true, get_or, set, sym, ap, ◌∙◌, subst, arith}
use Rattle.std.proofs.lemmas.Bool.{iff_false}
use Rattle.std.proofs.lemmas.List.{length-set}
use Rattle.std.proofs.lemmas.Option.{slice_get-get_or}
use Rattle.fmu_description.specs.Names.{Named}
use Rattle.fmu_description.proofs.NameLemmas.{HasMarked, marked_more, marked_still, marked_all}
use Rattle.fmu_description.proofs.names.marks.Goals as goal
use Rattle.fmu_description.proofs.names.marks.Goals.{then-is_after, else-is_after}

-- what a read past the end would give
none : Named
none = (record { ref_ptr = (0, 0); now = [] }, 0)

pub loop-place-preserved : goal.loop-place-preserved
unfolding none
loop-place-preserved c =
    let named = c.args.named.now in
    let i = c.loop-place.place in
    let marks = c.loop-place.marks.items in
    let other = get_or named i none in
    let at_one = slice_get-get_or named (i - 1) none (omega arith) in
    let at_other = slice_get-get_or named i none c.loop-place-test.true in
    let within : other.1 < length marks = let few = c.requires i none c.loop-place-test.true in let len = c.loop-place.invariant.len in omega (arith, few, len) in
    elim c.if-is_after.branch [
      | then-is_after w ↦
          let written : c.if-is_after.marks.items ≡ set marks other.1 true = ap (λ v. v.items) w.marks-is in
          record {
            len = ap length written ∙ length-set marks other.1 true ∙ c.loop-place.invariant.len;
            marked = subst (HasMarked named (i + 1)) (sym written) (marked_more named i marks (get_or named (i - 1) none) other (omega arith) at_one at_other c.loop-place.invariant.marked (c.is_after.ensures.0 w.if-is_after.true) within);
          }
      | else-is_after w ↦
          let same : c.if-is_after.marks.items ≡ marks = ap (λ v. v.items) w.marks-is in
          record {
            len = ap length same ∙ c.loop-place.invariant.len;
            marked = subst (HasMarked named (i + 1)) (sym same) (marked_still named i marks (get_or named (i - 1) none) other (omega arith) at_one at_other c.loop-place.invariant.marked (iff_false c.is_after.ensures w.if-is_after.false));
          }
    ]

pub returns : goal.returns
returns c = marked_all c.args.named.now c.loop-place.place c.loop-place.marks.items (omega arith) c.loop-place.invariant.marked
