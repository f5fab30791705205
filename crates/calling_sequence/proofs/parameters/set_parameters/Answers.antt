use Rattle.std.proofs.Common.{◌≡◌, ◌∙◌, sym, subst, ◌<◌, Ok, Err, List, ap, arith, length, refl, get_or}
use Rattle.core.proofs.result.Match.{err_is}
use Rattle.std.specs.Prelude.{All}
use Rattle.fmu_peer.specs.CloseAll.{instance_in}
use Rattle.value_types.specs.declared.shape.Shape.{Shape}
use Rattle.system_model.specs.Bounds.{IsParameterValue}
use Rattle.system_model.specs.declared.bound.BoundValue.{BoundValue}
use Rattle.slot_calls.specs.Log.{ComponentCall}
use Rattle.slot_calls.specs.Slots.{instances}
use Rattle.slot_calls.specs.Stage.{Stage, nothing}
use Rattle.slot_calls.proofs.CallerLemmas.{answered_none, shapes_same, told_none}
use Rattle.slot_calls.specs.Stage.{shapes}
use Rattle.calling_sequence.specs.Calls.{binding_from, sets_of}
use Rattle.calling_sequence.proofs.Bindings.{binding_cut, binding_on, slots_length, values_at}
use Rattle.std.proofs.lemmas.List.{take_all}
use Rattle.calling_sequence.proofs.parameters.set_parameters.Goals as goal

pub loop-place-init : goal.loop-place-init
loop-place-init g c =
    let is = instances g.L.Peer.view c.args.slots.now in
    record { live = c.requires.live; made = c.requires.made; sets = record { log = _; told = told_none is; says = (answered_none (shapes is), refl) } }

pub set_values-requires-clause-within : goal.set_values-requires-clause-within
set_values-requires-clause-within g c κs within =
    let e : length c.as_slice-values-items.result.now ≡ length c.args.bound.now.components = ap length c.as_slice-values-items.ensures in
    let l = slots_length (λ s. instance_in g.L.Peer.view s) c.args.slots.now c.args.bound.now.components c.requires.bound in
    let w = c.loop-place-test.true in
    let s = c.loop-place.auto.slots in
    omega (arith, e, l, w, s)

pub set_values-requires-clause-values : goal.set_values-requires-clause-values
set_values-requires-clause-values g c κs within =
    let lists = c.args.bound.now.components in
    let olds = instances g.L.Peer.view c.args.slots.now in
    let mids = instances g.L.Peer.view c.loop-place.slots in
    let stage = c.loop-place.invariant.sets in
    let items = c.as_slice-values-items.ensures in
    let inside : c.loop-place.place < length lists = subst (λ (xs : List (List BoundValue)). c.loop-place.place < length xs) items c.loop-place-test.true in
    λ d.
    let own = (values_at (shapes olds) lists c.requires.bound c.loop-place.place d c.values-item.result inside).each in
    let here : get_or lists c.loop-place.place c.values-item.result ≡ c.as_slice.result.now =
    sym (c.values-item.is ∙ ap (λ (xs : List (List BoundValue)). get_or xs c.loop-place.place c.values-item.result) items) ∙ sym c.as_slice.ensures in
    subst (λ (ss : List Shape). All (IsParameterValue (get_or ss c.loop-place.place d)) c.as_slice.result.now) (sym (shapes_same stage.log olds mids stage.told))
    (subst (λ (vs : List BoundValue). All (IsParameterValue (get_or (shapes olds) c.loop-place.place d)) vs) here own)

pub returns-in_err-set_values-clause-sets : goal.returns-in_err-set_values-clause-sets
returns-in_err-set_values-clause-sets g c =
    let lists = c.args.bound.now.components in
    let items = c.as_slice-values-items.ensures in
    let olds = instances g.L.Peer.view c.args.slots.now in
    let mids = instances g.L.Peer.view c.loop-place.slots in
    let news = instances g.L.Peer.view c.set_values.new.slots in
    let inside : c.loop-place.place < length lists = subst (λ (xs : List (List BoundValue)). c.loop-place.place < length xs) items c.loop-place-test.true in
    let here = c.values-item.is ∙ ap (λ (xs : List (List BoundValue)). get_or xs c.loop-place.place c.values-item.result) items in
    binding_cut lists c.loop-place.place c.values-item.result inside here olds mids news c.loop-place.invariant.sets c.in_err-set_values.field-0.0 c.from_residual.result (err_is _ _ c.from_residual.ensures.1)
    (subst (λ (vs : List BoundValue). Stage (sets_of c.loop-place.place vs) nothing mids news (Err c.in_err-set_values.field-0.0)) c.as_slice.ensures c.in_err-set_values.ensures.sets)

pub loop-place-preserved : goal.loop-place-preserved
loop-place-preserved g c =
    let lists = c.args.bound.now.components in
    let items = c.as_slice-values-items.ensures in
    let olds = instances g.L.Peer.view c.args.slots.now in
    let mids = instances g.L.Peer.view c.loop-place.slots in
    let news = instances g.L.Peer.view c.set_values.new.slots in
    let inside : c.loop-place.place < length lists = subst (λ (xs : List (List BoundValue)). c.loop-place.place < length xs) items c.loop-place-test.true in
    let here = c.values-item.is ∙ ap (λ (xs : List (List BoundValue)). get_or xs c.loop-place.place c.values-item.result) items in
    let e = c.in_ok-set_values.ensures in
    record {
      live = e.live;
      made = e.made;
      sets = binding_on lists c.loop-place.place c.values-item.result inside here olds mids news c.loop-place.invariant.sets
          (subst (λ (vs : List BoundValue). Stage (sets_of c.loop-place.place vs) nothing mids news (Ok tt)) c.as_slice.ensures e.sets);
    }

pub returns-clause-sets : goal.returns-clause-sets
returns-clause-sets g c =
    let lists = c.args.bound.now.components in
    let over = c.loop-place-test.false in
    let e : length c.as_slice-values-items.result.now ≡ length lists = ap length c.as_slice-values-items.ensures in
    subst (λ (cs : List ComponentCall). Stage cs nothing (instances g.L.Peer.view c.args.slots.now) (instances g.L.Peer.view c.loop-place.slots) (Ok tt))
    (ap (binding_from 0) (take_all c.loop-place.place lists (omega (arith, over, e)))) c.loop-place.invariant.sets
