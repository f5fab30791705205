use Rattle.std.proofs.Common.{◌≡◌, ◌<◌, List, ap₂, arith, length, sym, None, get_or, ◌++◌, ◌∷◌, [], ◌∙◌}
use Rattle.std.proofs.lemmas.List.{get_or_default, take_all, take_more}
use Rattle.system_model.specs.declared.system.Port.{Port}
use Rattle.tick_schedule.specs.declared.clock.TimeClock.{TimeClock as TimedClock}
use Rattle.calling_sequence.specs.Holding.{clock_by, each_by}
use Rattle.calling_sequence.proofs.Resumed.{each_at, each_len}
use Rattle.calling_sequence.proofs.resumption.clocks_of.Goals as goal

pub loop-place-preserved : goal.loop-place-preserved
loop-place-preserved c =
    let k = c.loop-place.place in
    let ports = c.args.ports.now in
    let given = c.args.times.now in
    let w : k < length ports = c.loop-place-test.true in
    let len = c.requires in
    let all = each_by (λ (port : Port). clock_by port.role) ports given in
    let x = c.clock_with.result in
    let within : k < length all = let l = each_len (λ (port : Port). clock_by port.role) ports given len in omega (arith, l, w) in
    let is : x ≡ get_or all k x = c.clock_with.ensures ∙ sym (each_at (λ (port : Port). clock_by port.role) ports given k c.index-ports-place.result (get_or given k None) x w len c.index-ports-place.is (get_or_default given k None (get_or given k None) (omega (arith, w, len)))) in
    record { clocks_are = c.in_ok-push.ensures.items ∙ ap₂ (λ (l : List TimedClock) (y : TimedClock). l ++ y ∷ []) c.loop-place.invariant.clocks_are is ∙ sym (take_more all k x within) }

pub returns : goal.returns
returns c =
    let over = c.loop-place-test.false in
    let l = each_len (λ (port : Port). clock_by port.role) c.args.ports.now c.args.times.now c.requires in
    c.loop-place.invariant.clocks_are ∙ take_all c.loop-place.place (each_by (λ (port : Port). clock_by port.role) c.args.ports.now c.args.times.now) (omega (arith, over, l))
