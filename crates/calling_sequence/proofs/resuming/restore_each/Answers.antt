use Rattle.std.proofs.Common.{◌≡◌, ℕ, ◌<◌, ◌≤◌, ◌^◌, List, [], arith, length, map, refl, subst, sym, get_or, set, ◌∙◌}
use Rattle.std.proofs.lemmas.List.{get_or_default, length-map, length-set}
use Rattle.std.proofs.lemmas.List.Elements.{All-get_or, All-set}
use Rattle.fmu_peer.specs.CloseAll.{instance_in}
use Rattle.slot_calls.specs.Keeping.{MayBeRestored, WasNotRestored, WasRestored, restoring_calls, without_machine_in}
use Rattle.slot_calls.specs.Slots.{LiveSlot, Stands}
use Rattle.slot_calls.specs.Stage.{shapes}
use Rattle.slot_calls.proofs.CallerLemmas.{answered_none, at_rest, same_first, same_more, shapes_same, told_none}
use Rattle.calling_sequence.specs.Place.{IsMade, IsStepping}
use Rattle.calling_sequence.proofs.InTurn.{in_turn_all, loop_cut, loop_on, restoring_at, restoring_lists, restoring_of}
use Rattle.calling_sequence.proofs.Restoring.{all_stand, bare_shapes, bare_stage, calls_as, may_be_restored, one_there, prefix_more, prefix_same, restored_as, restored_stepping, unrestored_as}
use Rattle.calling_sequence.proofs.resuming.restore_each.Goals as goal

pub loop-place-init : goal.loop-place-init
loop-place-init g c =
    let is = map (λ s. without_machine_in (instance_in g.L.Peer.view s)) c.args.slots.now in
    record {
      rest = same_first c.args.slots.now;
      live = c.requires.ready.live;
      stage = record { log = []; told = told_none is; says = (answered_none (shapes is), refl) };
      prefix = λ i d w. absurd (omega (arith, w));
    }

pub restore-requires-clause-live : goal.restore-requires-clause-live
restore-requires-clause-live g c κs within =
    let l = c.loop-place.auto.slots in
    let w = c.loop-place-test.true in
    All-get_or (LiveSlot g.L.Peer.view) c.loop-place.slots c.loop-place.place c.index-slots-place.result (omega (arith, l, w)) c.loop-place.invariant.live

pub restore-requires-clause-may : goal.restore-requires-clause-may
restore-requires-clause-may g c κs within =
    at_rest (Stands MayBeRestored g.L.Peer.view) c.loop-place.place c.args.slots.now c.loop-place.slots c.index-slots-place.result c.loop-place.invariant.rest c.loop-place-test.true
    (may_be_restored g.L.Peer.view c.args.experiment.now (λ stop step. IsMade) c.args.slots.now c.requires.ready c.requires.can (λ v h. h))

pub restore-requires-clause-ordered : goal.restore-requires-clause-ordered
restore-requires-clause-ordered g c κs within = let before = c.requires.before in omega (arith, before)

pub restore-requires-clause-few : goal.restore-requires-clause-few
restore-requires-clause-few g c κs within =
    let l = c.requires.each in
    let w = c.loop-place-test.true in
    subst (λ (bs : List ℕ). length bs ≤ 2 ^ 20) (sym (c.as_slice.ensures ∙ c.index-states-place.is)) (All-get_or (λ (state : List ℕ). length state ≤ 2 ^ 20) c.args.states.now c.loop-place.place c.index-states-place.result (omega (arith, l, w)) c.requires.few)

pub returns-in-Err-clause-stage : goal.returns-in-Err-clause-stage
returns-in-Err-clause-stage g c =
    let point = c.args.point in
    let stop = c.args.experiment.now.plan.stop in
    let states = c.args.states.now in
    let k = c.loop-place.place in
    let state = c.as_slice.result.now in
    let inside : k < length states = let l = c.requires.each in let w = c.loop-place-test.true in omega (arith, l, w) in
    let there = restoring_at point stop states k state inside (c.as_slice.ensures ∙ c.index-states-place.is ∙ get_or_default states k c.index-states-place.result state inside) in
    let within : k < length c.loop-place.slots = let l = c.loop-place.auto.slots in let w = c.loop-place-test.true in omega (arith, l, w) in
    bare_stage (λ s. instance_in g.L.Peer.view s) c.args.slots.now (set c.loop-place.slots k c.restore.new.slot) _ _
    (calls_as _ _ (restoring_lists 0 point stop (map length states))
    (loop_cut (λ s. without_machine_in (instance_in g.L.Peer.view s)) _ c.loop-place.slots (restoring_of point stop (map length states)) k (restoring_calls (length state) point stop) there.0 there.1 c.index-slots-place.result c.restore.new.slot within c.loop-place.invariant.stage _ refl c.in-Err.ensures.calls))

pub loop-place-preserved : goal.loop-place-preserved
loop-place-preserved g c =
    let i = c.loop-place.invariant in
    let point = c.args.point in
    let stop = c.args.experiment.now.plan.stop in
    let states = c.args.states.now in
    let k = c.loop-place.place in
    let state = c.as_slice.result.now in
    let inside : k < length states = let l = c.requires.each in let w = c.loop-place-test.true in omega (arith, l, w) in
    let is : state ≡ get_or states k state = c.as_slice.ensures ∙ c.index-states-place.is ∙ get_or_default states k c.index-states-place.result state inside in
    let there = restoring_at point stop states k state inside is in
    let within : k < length c.loop-place.slots = let l = c.loop-place.auto.slots in let w = c.loop-place-test.true in omega (arith, l, w) in
    record {
      rest = same_more k c.args.slots.now c.loop-place.slots c.restore.new.slot i.rest;
      live = All-set (LiveSlot g.L.Peer.view) c.loop-place.slots k c.restore.new.slot c.in-Ok.ensures.live i.live;
      stage = loop_on (λ s. without_machine_in (instance_in g.L.Peer.view s)) _ c.loop-place.slots (restoring_of point stop (map length states)) k (restoring_calls (length state) point stop) there.0 there.1 c.index-slots-place.result c.restore.new.slot within i.stage c.in-Ok.ensures.calls;
      prefix = prefix_more (λ s. instance_in g.L.Peer.view s) c.args.slots.now c.loop-place.slots k i.rest c.loop-place-test.true c.restore.new.slot (λ j v w. WasRestored point stop (get_or states j []) v w) i.prefix c.index-slots-place.result
          (restored_as _ _ (is ∙ get_or_default states k state [] inside) c.in-Ok.ensures.restores);
    }

pub returns-in-Err-clause-restores : goal.returns-in-Err-clause-restores
returns-in-Err-clause-restores g c =
    let i = c.loop-place.invariant in
    let point = c.args.point in
    let stop = c.args.experiment.now.plan.stop in
    let states = c.args.states.now in
    let k = c.loop-place.place in
    let state = c.as_slice.result.now in
    let inside : k < length states = let l = c.requires.each in let w = c.loop-place-test.true in omega (arith, l, w) in
    let is : state ≡ get_or states k state = c.as_slice.ensures ∙ c.index-states-place.is ∙ get_or_default states k c.index-states-place.result state inside in
    let n = length-map c.args.slots.now (λ s. instance_in g.L.Peer.view s) in
    let m = length-map (set c.loop-place.slots k c.restore.new.slot) (λ s. instance_in g.L.Peer.view s) in
    let l = length-set c.loop-place.slots k c.restore.new.slot in
    let len = i.rest.len in
    let w = c.loop-place-test.true in
    record {
      len = omega (arith, n, m, l, len);
      within = omega (arith, n, w);
      prefix = prefix_same (λ s. instance_in g.L.Peer.view s) c.args.slots.now c.loop-place.slots k i.rest w c.restore.new.slot (λ j v u. WasRestored point stop (get_or states j []) v u) i.prefix;
      there = one_there (λ s. instance_in g.L.Peer.view s) c.args.slots.now c.loop-place.slots k i.rest w c.restore.new.slot (λ v u. WasNotRestored point stop (get_or states k []) c.in-Err.why v u) c.index-slots-place.result
          (unrestored_as _ _ (is ∙ get_or_default states k state [] inside) c.in-Err.ensures.restores);
    }

pub returns-clause-ready : goal.returns-clause-ready
returns-clause-ready g c =
    let view = g.L.Peer.view in
    let e = c.args.experiment.now in
    let i = c.loop-place.invariant in
    let r = c.requires.ready in
    let few = r.few in
    let len = c.loop-place.auto.slots in
    let over = c.loop-place-test.false in
    record {
      may = r.may;
      few = omega (arith, few, len);
      shapes_are = sym (bare_shapes (λ s. instance_in view s) c.loop-place.slots) ∙ shapes_same i.stage.log _ _ i.stage.told ∙ bare_shapes (λ s. instance_in view s) c.args.slots.now ∙ r.shapes_are;
      live = i.live;
      stand = all_stand view c.args.slots.now c.loop-place.slots (λ j v w. WasRestored c.args.point e.plan.stop (get_or c.args.states.now j []) v w) IsMade (IsStepping c.args.point e.plan.stop e.plan.step) len (λ j d w. i.prefix j d (omega (arith, over, w)))
          (λ j v w was made. restored_stepping c.args.point e.plan.stop e.plan.step (get_or c.args.states.now j []) v w was made) r.stand;
    }

pub returns-clause-stage : goal.returns-clause-stage
returns-clause-stage g c =
    let point = c.args.point in
    let stop = c.args.experiment.now.plan.stop in
    let sizes = map length c.args.states.now in
    let over = c.loop-place-test.false in
    let each = c.requires.each in
    let l = length-map sizes (λ (size : ℕ). restoring_calls size point stop) in
    let m = length-map c.args.states.now (λ (state : List ℕ). length state) in
    bare_stage (λ s. instance_in g.L.Peer.view s) c.args.slots.now c.loop-place.slots _ _
    (calls_as _ _ (restoring_lists 0 point stop sizes) (in_turn_all (restoring_of point stop sizes) c.loop-place.place _ _ (omega (arith, over, each, l, m)) c.loop-place.invariant.stage))

pub returns-clause-restores : goal.returns-clause-restores
returns-clause-restores g c =
    let i = c.loop-place.invariant in
    let n = length-map c.args.slots.now (λ s. instance_in g.L.Peer.view s) in
    let m = length-map c.loop-place.slots (λ s. instance_in g.L.Peer.view s) in
    let len = c.loop-place.auto.slots in
    let over = c.loop-place-test.false in
    record { len = omega (arith, n, m, len); each = λ j d w. i.prefix j d (omega (arith, over, n, w)) }
