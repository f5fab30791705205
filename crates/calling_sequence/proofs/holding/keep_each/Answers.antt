use Rattle.std.proofs.Common.{ℕ, ◌+◌, ◌<◌, ◌≤◌, ◌^◌, ◌++◌, List, [], Ok, Err, ap, arith, length, refl, subst, sym, set, ◌∙◌}
use Rattle.std.proofs.lemmas.List.{length-map}
use Rattle.std.proofs.lemmas.List.Elements.{All-get_or, All-set}
use Rattle.fmu_peer.specs.CloseAll.{Instance, instance_in}
use Rattle.exact_parts.specs.Field.{AreBytes}
use Rattle.value_types.specs.declared.shape.Shape.{Shape}
use Rattle.system_checkpoint.specs.Spelling.{sized}
use Rattle.slot_calls.specs.Keeping.{IsPackedOf, MayBeKept, keeping_calls}
use Rattle.slot_calls.specs.Log.{ComponentCall}
use Rattle.slot_calls.specs.Slots.{LiveSlot, Stands, instances}
use Rattle.slot_calls.specs.Stage.{Stage, nothing, shapes}
use Rattle.slot_calls.proofs.CallerLemmas.{answered_none, at_rest, same_first, same_more, shape_of, told_none}
use Rattle.calling_sequence.proofs.InTurn.{in_turn_all, keeping_at, keeping_lists, keeping_of, loop_cut, loop_on, seat_at}
use Rattle.calling_sequence.proofs.KeptStates.{kept_all, kept_len, kept_more, kept_none}
use Rattle.calling_sequence.proofs.holding.keep_each.Goals as goal

pub loop-place-init : goal.loop-place-init
loop-place-init g c =
    let is = instances g.L.Peer.view c.args.slots.now in
    record {
      rest = same_first c.args.slots.now;
      live = c.requires.live;
      stage = record { log = []; told = told_none is; says = (answered_none (shapes is), refl) };
      kept = kept_none is c.args.keeping.now.bytes.items;
      none = c.requires.none;
      state = omega arith;
      room = omega arith;
    }

pub keep-requires-clause-live : goal.keep-requires-clause-live
keep-requires-clause-live g c κs within =
    let l = c.loop-place.auto.slots in
    let w = c.loop-place-test.true in
    All-get_or (LiveSlot g.L.Peer.view) c.loop-place.slots c.loop-place.place c.index-slots-place.result (omega (arith, l, w)) c.loop-place.invariant.live

pub keep-requires-clause-may : goal.keep-requires-clause-may
keep-requires-clause-may g c κs within = at_rest (Stands MayBeKept g.L.Peer.view) c.loop-place.place c.args.slots.now c.loop-place.slots c.index-slots-place.result c.loop-place.invariant.rest c.loop-place-test.true c.requires.may

pub keep-requires-clause-room : goal.keep-requires-clause-room
keep-requires-clause-room g c κs within =
    let a = c.requires.state in
    let b = c.loop-place.invariant.state in
    omega (arith, a, b)

pub returns-in-Err-clause-stage : goal.returns-in-Err-clause-stage
returns-in-Err-clause-stage g c =
    let olds = instances g.L.Peer.view c.args.slots.now in
    let k = c.loop-place.place in
    let within : k < length c.loop-place.slots = let l = c.loop-place.auto.slots in let w = c.loop-place-test.true in omega (arith, l, w) in
    let there = keeping_at (λ s. instance_in g.L.Peer.view s) c.args.slots.now k c.loop-place-test.true in
    subst (λ (cs : List ComponentCall). Stage cs nothing olds (instances g.L.Peer.view (set c.loop-place.slots k c.keep.new.slot)) (Err (record { component = record { 0 = k }; why = c.in-Err.why }))) (keeping_lists 0 (shapes olds))
    (loop_cut (λ s. instance_in g.L.Peer.view s) olds c.loop-place.slots (keeping_of (shapes olds)) k keeping_calls there.0 there.1 c.index-slots-place.result c.keep.new.slot within c.loop-place.invariant.stage _ refl c.in-Err.ensures.calls)

pub put_state-requires-clause-few : goal.put_state-requires-clause-few
put_state-requires-clause-few g c =
    subst (λ (bs : List ℕ). length bs ≤ 2 ^ 20) (sym c.deref.ensures.value) c.in-Ok.ensures.few

pub put_state-requires-clause-room : goal.put_state-requires-clause-room
put_state-requires-clause-room g c =
    let i = c.loop-place.invariant in
    let few = c.in-Ok.ensures.few in
    let same = ap length c.deref.ensures.value in
    let so_far = kept_len c.loop-place.place (instances g.L.Peer.view c.args.slots.now) c.args.keeping.now.bytes.items c.loop-place.keeping.bytes.items i.kept in
    let old = c.args.keeping.now.bytes.ok.0 in
    let mid = c.loop-place.keeping.bytes.ok.0 in
    let room = c.requires.room in
    let grown = i.room in
    let within = c.loop-place-test.true in
    omega (arith, few, same, so_far, old, mid, room, grown, within)

pub loop-place-preserved : goal.loop-place-preserved
loop-place-preserved g c =
    let view = g.L.Peer.view in
    let i = c.loop-place.invariant in
    let olds = instances view c.args.slots.now in
    let k = c.loop-place.place in
    let within : k < length c.loop-place.slots = let l = c.loop-place.auto.slots in let w = c.loop-place-test.true in omega (arith, l, w) in
    let there = keeping_at (λ s. instance_in g.L.Peer.view s) c.args.slots.now k c.loop-place-test.true in
    let room = c.put_state.ensures.room in
    let grown = i.room in
    let state = i.state in
    let same = c.deref.ensures.value in
    record {
      rest = same_more k c.args.slots.now c.loop-place.slots c.keep.new.slot i.rest;
      live = All-set (LiveSlot view) c.loop-place.slots k c.keep.new.slot c.in-Ok.ensures.live i.live;
      stage = loop_on (λ s. instance_in g.L.Peer.view s) olds c.loop-place.slots (keeping_of (shapes olds)) k keeping_calls there.0 there.1 c.index-slots-place.result c.keep.new.slot within i.stage c.in-Ok.ensures.calls;
      kept = kept_more k olds _ _ _ i.kept c.keep.new.into.items
          (λ d. subst (λ (x : Instance). IsPackedOf x.view c.keep.new.into.items) (seat_at (λ s. instance_in g.L.Peer.view s) c.args.slots.now c.loop-place.slots i.rest k c.loop-place-test.true (omega arith) c.index-slots-place.result d) c.in-Ok.ensures.packed) c.in-Ok.ensures.few (subst AreBytes same c.put_state.ensures.are_bytes)
          (c.put_state.ensures.text ∙ ap (λ (bs : List ℕ). c.loop-place.keeping.bytes.items ++ sized bs) same);
      none = c.clear.ensures.items;
      state = omega (arith, state);
      room = omega (arith, room, grown);
    }

pub returns-clause-stage : goal.returns-clause-stage
returns-clause-stage g c =
    let olds = instances g.L.Peer.view c.args.slots.now in
    let news = instances g.L.Peer.view c.loop-place.slots in
    let over = c.loop-place-test.false in
    let l = length-map (shapes olds) (λ (s : Shape). keeping_calls) in
    let m = length-map olds shape_of in
    let n = length-map c.args.slots.now (λ s. instance_in g.L.Peer.view s) in
    subst (λ (cs : List ComponentCall). Stage cs nothing olds news (Ok tt)) (keeping_lists 0 (shapes olds)) (in_turn_all (keeping_of (shapes olds)) c.loop-place.place olds news (omega (arith, over, l, m, n)) c.loop-place.invariant.stage)

pub returns-clause-kept : goal.returns-clause-kept
returns-clause-kept g c =
    let n = length-map c.args.slots.now (λ s. instance_in g.L.Peer.view s) in
    let over = c.loop-place-test.false in
    let up_to = c.loop-place.auto.place-end in
    kept_all c.loop-place.place _ _ _ (omega (arith, n, over, up_to)) c.loop-place.invariant.kept

pub returns-clause-len : goal.returns-clause-len
returns-clause-len g c =
    let i = c.loop-place.invariant in
    let so_far = kept_len c.loop-place.place (instances g.L.Peer.view c.args.slots.now) c.args.keeping.now.bytes.items c.loop-place.keeping.bytes.items i.kept in
    let old = c.args.keeping.now.bytes.ok.0 in
    let mid = c.loop-place.keeping.bytes.ok.0 in
    let up_to = c.loop-place.auto.place-end in
    omega (arith, so_far, old, mid, up_to)
