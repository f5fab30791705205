use Rattle.std.proofs.Common.{◌∙◌, ◌++◌, ◌<◌, arith, length, refl}
use Rattle.std.proofs.lemmas.List.{get_or_default}
use Rattle.std.proofs.lemmas.List.Elements.{All-get_or, All-set}
use Rattle.fmu_peer.specs.CloseAll.{instance_in}
use Rattle.slot_calls.specs.Slots.{LiveSlot, Stands, instances}
use Rattle.slot_calls.specs.Stage.{shapes}
use Rattle.slot_calls.proofs.CallerLemmas.{answered_none, one_log, told_none}
use Rattle.calling_sequence.specs.Place.{IsMade}
use Rattle.calling_sequence.proofs.Bindings.{may_set_there, set_answered, set_badly, set_made, set_told, sets_all}
use Rattle.calling_sequence.proofs.parameters.set_values.Goals as goal

pub loop-value-init : goal.loop-value-init
loop-value-init g c =
    let is = instances g.L.Peer.view c.args.slots.now in
    record { live = c.requires.live; made = c.requires.made; log = _; told = told_none is; answered = answered_none (shapes is) }

pub send-requires-clause-live : goal.send-requires-clause-live
send-requires-clause-live g c κs within =
    let l = c.loop-value.auto.slots in
    let w = c.requires.within in
    All-get_or (LiveSlot g.L.Peer.view) c.loop-value.slots c.args.place c.index-slots-place.result (omega (arith, l, w)) c.loop-value.invariant.live

pub send-requires-clause-permitted : goal.send-requires-clause-permitted
send-requires-clause-permitted g c κs within =
    let l = c.loop-value.auto.slots in
    let w = c.requires.within in
    let inside : c.args.place < length c.loop-value.slots = omega (arith, l, w) in
    let i = c.loop-value.invariant in
    may_set_there (λ s. instance_in g.L.Peer.view s) c.args.slots.now c.loop-value.slots i.log i.told c.args.place c.index-slots-place.result c.index-slots-place.result inside
    c.args.values.now c.loop-value.value-index _ c.loop-value-test.true (get_or_default _ _ _ _ c.loop-value-test.true) c.set_call.result c.set_call.ensures
    (i.made c.args.place c.index-slots-place.result inside) c.requires.values

pub returns-in-Err-clause-sets : goal.returns-in-Err-clause-sets
returns-in-Err-clause-sets g c =
    let l = c.loop-value.auto.slots in
    let w = c.requires.within in
    let i = c.loop-value.invariant in
    set_badly (λ s. instance_in g.L.Peer.view s) c.args.slots.now c.loop-value.slots i.log i.told c.args.place c.index-slots-place.result c.send.new.slot (omega (arith, l, w))
    c.args.values.now c.loop-value.value-index _ c.loop-value-test.true (get_or_default _ _ _ _ c.loop-value-test.true) c.set_call.result c.set_call.ensures i.answered _ refl c.in-Err.ensures.one

pub loop-value-preserved : goal.loop-value-preserved
loop-value-preserved g c =
    let view = g.L.Peer.view in
    let l = c.loop-value.auto.slots in
    let w = c.requires.within in
    let inside : c.args.place < length c.loop-value.slots = omega (arith, l, w) in
    let i = c.loop-value.invariant in
    let one = c.in-Ok.ensures.one in
    let made = set_made (λ s. instance_in view s) c.args.slots.now c.loop-value.slots i.log i.told c.args.place c.index-slots-place.result c.send.new.slot inside
    c.args.values.now c.loop-value.value-index _ c.loop-value-test.true (get_or_default _ _ _ _ c.loop-value-test.true) c.set_call.result c.set_call.ensures _ one (i.made c.args.place c.index-slots-place.result inside) in
    record {
      live = All-set (LiveSlot view) c.loop-value.slots c.args.place c.send.new.slot c.in-Ok.ensures.live i.live;
      made = All-set (Stands IsMade view) c.loop-value.slots c.args.place c.send.new.slot made i.made;
      log = i.log ++ one_log c.args.place one.exchange;
      told = set_told (λ s. instance_in view s) c.args.slots.now c.loop-value.slots i.log i.told c.args.place c.index-slots-place.result c.send.new.slot inside
          c.args.values.now c.loop-value.value-index _ c.loop-value-test.true (get_or_default _ _ _ _ c.loop-value-test.true) c.set_call.result c.set_call.ensures _ one;
      answered = set_answered (λ s. instance_in view s) c.args.slots.now c.loop-value.slots i.log i.told c.args.place c.index-slots-place.result c.send.new.slot inside
          c.args.values.now c.loop-value.value-index _ c.loop-value-test.true (get_or_default _ _ _ _ c.loop-value-test.true) c.set_call.result c.set_call.ensures i.answered _ one;
    }

pub returns-clause-sets : goal.returns-clause-sets
returns-clause-sets g c =
    let i = c.loop-value.invariant in
    record {
      log = i.log;
      told = i.told;
      says = (record { calls_are = i.answered.calls_are ∙ sets_all c.args.place c.args.values.now c.loop-value.value-index c.loop-value-test.false; good = i.answered.good }, refl);
    }
