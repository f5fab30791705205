use Rattle.std.proofs.Common.{◌≡◌, ◌-◌, [], ℕ, Option, length, replicate, take, false, ap, ◌∙◌, subst}
use Rattle.std.specs.Option.{option_map_or}
use Rattle.std.specs.declared.alloc.Global.{Global}
use Rattle.std.specs.declared.vec.Vec.{Vec}
use Rattle.std.proofs.lemmas.List.{append-nil}
use Rattle.fmu_description.specs.Marks.{Marks, listed_at}
use Rattle.fmu_description.proofs.MarkLemmas.{IsSpreading, marks_none, spread_begin, spread_more, spread_all, takes_out}
use Rattle.fmu_description.proofs.ignored.ignored_variables.Goals as goal

pub loop-reference-init : goal.loop-reference-init
loop-reference-init c =
    let t = c.args.tree.now in
    let fresh : c.in_ok-marks.marks.items ≡ replicate (length t) false = c.in_ok-marks.ensures ∙ ap (λ n. replicate n false) c.len.ensures in
    spread_begin t _ _ _ _ c.in_ok-sources.field-0.items _ (listed_at c.in_ok-followers.followers) c.in_ok-sources.ensures c.in_ok-followers.ensures c.as_slice.ensures.value fresh c.new-work.ensures.items c.in_ok-mark_all.ensures

pub loop-reference-preserved-in-Some-remove : goal.loop-reference-preserved-in-Some-remove
loop-reference-preserved-in-Some-remove c =
    let t = c.args.tree.now in
    let old = c.loop-reference.followers in
    let r = c.in-Some.reference in
    let had : c.as_slice-in-Some-remove.result.now ≡ listed_at old r = c.as_slice-in-Some-remove.ensures.value ∙ ap (λ (o : Option (Vec ℕ Global)). option_map_or (λ (v : Vec ℕ Global). v.items) o []) c.in-Some-remove.ensures.value in
    let new = c.mark_all-in-Some-remove.new in
    let marks : Marks t (listed_at old r) c.loop-reference.marks.items new.marks.items c.pop.new.self.items new.work.items =
    subst (λ z. Marks t z c.loop-reference.marks.items new.marks.items c.pop.new.self.items new.work.items) had c.in_ok-mark_all-2.ensures in
    spread_more t c.loop-reference.marks.items new.marks.items c.loop-reference.work.items c.pop.new.self.items new.work.items r (listed_at old) (listed_at c.remove.new.self) c.loop-reference.invariant c.in-Some.ensures.items
    (takes_out r old c.remove.new.self c.remove.ensures.updates) marks

pub loop-reference-preserved : goal.loop-reference-preserved
loop-reference-preserved c =
    let t = c.args.tree.now in
    let old = c.loop-reference.followers in
    let r = c.in-Some.reference in
    let had : [] ≡ listed_at old r = ap (λ (o : Option (Vec ℕ Global)). option_map_or (λ (v : Vec ℕ Global). v.items) o []) c.in_default-remove.ensures.value in
    let now = c.loop-reference.marks.items in
    let marks : Marks t (listed_at old r) now now c.pop.new.self.items c.pop.new.self.items = subst (λ z. Marks t z now now c.pop.new.self.items c.pop.new.self.items) had (marks_none t now c.pop.new.self.items) in
    spread_more t now now c.loop-reference.work.items c.pop.new.self.items c.pop.new.self.items r (listed_at old) (listed_at c.remove.new.self) c.loop-reference.invariant c.in-Some.ensures.items
    (takes_out r old c.remove.new.self c.remove.ensures.updates) marks

pub returns : goal.returns
returns c =
    let t = c.args.tree.now in
    let work = c.loop-reference.work.items in
    let empty : work ≡ [] = c.in_default.ensures.items ∙ append-nil c.pop.new.self.items ∙ c.in_default.ensures.rest ∙ ap (λ n. take (n - 1) work) c.in_default.ensures.cases.0 in
    let done : IsSpreading t c.loop-reference.marks.items [] (listed_at c.loop-reference.followers) =
    subst (λ z. IsSpreading t c.loop-reference.marks.items z (listed_at c.loop-reference.followers)) empty c.loop-reference.invariant in
    spread_all t c.loop-reference.marks.items (listed_at c.loop-reference.followers) done
