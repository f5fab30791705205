use Rattle.std.proofs.Common.{◌-◌, ◌∙◌, ap, drop, length, take, arith, subst, sym}
use Rattle.std.proofs.lemmas.List.{length-drop}
use Rattle.exact_parts.specs.Taking.{Takes}
use Rattle.exact_parts.specs.declared.taken.Taken.TheVariants.{Got, Bad}
use Rattle.exact_parts.specs.Each.{Each}
use Rattle.system_checkpoint.specs.Parts.{State}
use Rattle.system_checkpoint.specs.Whole.{StateOf}
use Rattle.system_checkpoint.proofs.PartLemmas.{ends_within, taken_after}
use Rattle.system_checkpoint.proofs.ListLemmas.{each_bad, each_done, each_more, each_on, state_of_single, state_of_some}
use Rattle.system_checkpoint.proofs.lists.take_states.Goals as goal

pub overflow_add-done : goal.overflow_add-done
overflow_add-done c =
    let got = ends_within State c.in_ok-after.after (Got c.in-Got.value c.in-Got.length) (subst (λ t. Takes State c.in_ok-after.after t) c.in-Got.is c.in_ok-taken.ensures) in
    let left = ap length c.in_ok-after.ensures.rest ∙ length-drop c.loop-component.done c.args.bytes.now in
    let small = c.after.ensures.small in
    let done = c.loop-component.invariant.within in
    record { fits = omega (arith, got, left, small, done) }

pub overflow_add-result : goal.overflow_add-result
overflow_add-result c =
    let bad = ends_within State c.in_ok-after.after (Bad c.in-Bad.at) (subst (λ t. Takes State c.in_ok-after.after t) c.in-Bad.is c.in_ok-taken.ensures) in
    let left = ap length c.in_ok-after.ensures.rest ∙ length-drop c.loop-component.done c.args.bytes.now in
    let small = c.after.ensures.small in
    let done = c.loop-component.invariant.within in
    record { fits = omega (arith, bad, left, small, done) }

pub returns-in-NeedMore : goal.returns-in-NeedMore
returns-in-NeedMore c = each_more StateOf state_of_single state_of_some c.args.components.now c.args.bytes.now c.loop-component.states.items c.loop-component._component-index c.loop-component.done c._component-item.result c._component-item.is c.loop-component-test.true c.loop-component.invariant
    (subst (λ t. Takes State (take (length c.args.bytes.now - c.loop-component.done) (drop c.loop-component.done c.args.bytes.now)) t) c.in-NeedMore.is (taken_after State c.args.bytes.now c.in_ok-after.after c.loop-component.done c.in_ok-taken.taken c.in_ok-after.ensures.rest c.in_ok-taken.ensures))

pub returns-in-Bad : goal.returns-in-Bad
returns-in-Bad c = each_bad StateOf state_of_single state_of_some c.args.components.now c.args.bytes.now c.loop-component.states.items c.loop-component._component-index c.loop-component.done c._component-item.result c._component-item.is c.loop-component-test.true c.loop-component.invariant c.in-Bad.at
    (subst (λ t. Takes State (take (length c.args.bytes.now - c.loop-component.done) (drop c.loop-component.done c.args.bytes.now)) t) c.in-Bad.is (taken_after State c.args.bytes.now c.in_ok-after.after c.loop-component.done c.in_ok-taken.taken c.in_ok-after.ensures.rest c.in_ok-taken.ensures))

pub loop-component-preserved : goal.loop-component-preserved
loop-component-preserved c = each_on StateOf state_of_single state_of_some c.args.components.now c.args.bytes.now c.loop-component.states.items c.loop-component._component-index c.loop-component.done c._component-item.result c._component-item.is c.loop-component-test.true c.loop-component.invariant c.in-Got.value c.in-Got.length c.push.new.self.items c.in_ok-push-in-Got.ensures.items
    (subst (λ t. Takes State (take (length c.args.bytes.now - c.loop-component.done) (drop c.loop-component.done c.args.bytes.now)) t) c.in-Got.is (taken_after State c.args.bytes.now c.in_ok-after.after c.loop-component.done c.in_ok-taken.taken c.in_ok-after.ensures.rest c.in_ok-taken.ensures))

pub returns : goal.returns
returns c =
    subst (λ vs. Takes (Each StateOf c.args.components.now) c.args.bytes.now (Got vs c.loop-component.done)) (sym c.from_vec.ensures)
    (each_done StateOf c.args.components.now c.args.bytes.now c.loop-component.states.items c.loop-component._component-index c.loop-component.done (omega (arith, c.loop-component-test.false)) c.loop-component.invariant)
