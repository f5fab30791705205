use Rattle.std.proofs.Common.{◌≡◌, ◌<◌, ◌+◌, ℤ, List, Option, ap, ap₂, arith, take, length, sym, None, get_or, ◌++◌, ◌∷◌, [], ◌∙◌}
use Rattle.std.proofs.lemmas.List.{get_or_default, length-set, take_all, take_more, take_more_set}
use Rattle.system_model.specs.declared.system.Port.{Port}
use Rattle.calling_sequence.specs.Holding.{each_by, value_by}
use Rattle.calling_sequence.proofs.Resumed.{each_at, each_len}
use Rattle.calling_sequence.proofs.resumption.values_of.Goals as goal

pub loop-place-preserved : goal.loop-place-preserved
loop-place-preserved c =
    let k = c.loop-place.place in
    let ports = c.args.ports.now in
    let given = c.args.words.now in
    let w : k < length ports = c.loop-place-test.true in
    let len = c.requires in
    let all = each_by (λ (port : Port). value_by port.kind) ports given in
    let x = c.value_of.result in
    let within : k < length all = let l = each_len (λ (port : Port). value_by port.kind) ports given len in omega (arith, l, w) in
    let is : x ≡ get_or all k x = c.value_of.ensures ∙ sym (each_at (λ (port : Port). value_by port.kind) ports given k c.index-ports-place.result (get_or given k None) x w len c.index-ports-place.is (get_or_default given k None (get_or given k None) (omega (arith, w, len)))) in
    let size = c.loop-place.invariant.size in
    record {
      size = ap length c.put.ensures ∙ length-set c.loop-place.values k x ∙ size;
      values_are = ap (take (k + 1)) c.put.ensures ∙ take_more_set c.loop-place.values k x (omega (arith, size, w)) ∙ ap₂ (λ (l : List (Option ℤ)) (y : Option ℤ). l ++ y ∷ []) c.loop-place.invariant.values_are is ∙ sym (take_more all k x within);
    }

pub returns : goal.returns
returns c =
    let over = c.loop-place-test.false in
    let l = each_len (λ (port : Port). value_by port.kind) c.args.ports.now c.args.words.now c.requires in
    let size = c.loop-place.invariant.size in
    sym (take_all c.loop-place.place c.loop-place.values (omega (arith, over, size))) ∙ c.loop-place.invariant.values_are ∙ take_all c.loop-place.place (each_by (λ (port : Port). value_by port.kind) c.args.ports.now c.args.words.now) (omega (arith, over, l))
