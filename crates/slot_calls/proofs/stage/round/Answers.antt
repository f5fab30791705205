use Rattle.std.proofs.Common.{true, refl, sym, ◌∙◌, subst, [], ◌++◌, List}
use Rattle.std.specs.Prelude.{◌≡◌, ◌≤◌}
use Rattle.std.proofs.lemmas.List.{length-map}
use Rattle.fmu_peer.specs.CloseAll.{instance_in}
use Rattle.slot_calls.specs.Carried.{any_asks_to_end, asks_to_end}
use Rattle.slot_calls.specs.Log.{ComponentCall}
use Rattle.slot_calls.specs.Slots.{LiveSlot, MayTakePart, Stands, call_of, instances, is_asked}
use Rattle.slot_calls.specs.Stage.{RoundSays, shapes}
use Rattle.slot_calls.proofs.Answered.{answered_none, one_log, shape_of, those_all}
use Rattle.slot_calls.proofs.Logs.{told_none}
use Rattle.slot_calls.proofs.Turns.{at_either, at_rest, each_told, good_more, round_left, round_more, same_first, same_left, same_more}
use Rattle.slot_calls.proofs.stage.round.Goals as goal

pub loop-place-init : goal.loop-place-init
loop-place-init g c =
    let is = instances g.L.Peer.view c.args.slots.now in
    record { rest = same_first c.args.slots.now; live = c.requires.live; log = []; told = told_none is; says = (answered_none (shapes is), refl) }

pub advance-answer-requires-clause-permitted : goal.advance-answer-requires-clause-permitted
advance-answer-requires-clause-permitted g c κs within =
    at_rest (Stands (MayTakePart c.args.ask) g.L.Peer.view) c.loop-place.place c.args.slots.now c.loop-place.slots c.index-slots-place-in-loop-place.result c.loop-place.invariant.rest c.loop-place-test.true c.requires.permitted
    (at_either (λ s. is_asked c.args.ask (shape_of (instance_in g.L.Peer.view s)) ≡ true) c.loop-place.place c.args.slots.now c.loop-place.slots c.index-slots-place.result c.index-slots-place-in-loop-place.result c.loop-place.invariant.rest
    c.loop-place-test.true (sym c.is_asked.ensures ∙ c.if-not-is_asked.false))

pub loop-place-preserved-then-not-is_asked : goal.loop-place-preserved-then-not-is_asked
loop-place-preserved-then-not-is_asked g c =
    let i = c.loop-place.invariant in
    record {
      rest = same_left c.loop-place.place c.args.slots.now c.loop-place.slots i.rest;
      live = i.live;
      log = i.log;
      told = i.told;
      says = round_left (λ s. instance_in g.L.Peer.view s) (call_of c.args.ask) c.args.slots.now c.loop-place.slots i.log i.told c.loop-place.place c.index-slots-place.result c.index-slots-place.result i.rest c.loop-place-test.true
          (is_asked c.args.ask) (sym c.is_asked.ensures ∙ c.if-not-is_asked.true) c.loop-place.so_far i.says;
    }

pub loop-place-preserved : goal.loop-place-preserved
loop-place-preserved g c =
    let i = c.loop-place.invariant in
    let one = c.advance-answer.ensures.one in
    record {
      rest = same_more c.loop-place.place c.args.slots.now c.loop-place.slots c.advance-answer.new.slot i.rest;
      live = good_more (LiveSlot g.L.Peer.view) c.loop-place.slots c.loop-place.place c.advance-answer.new.slot c.loop-place.so_far c.with_answer-so_far.result _ c.advance-answer.result c.with_answer-so_far.ensures
          i.live c.advance-answer.ensures.live;
      log = i.log ++ one_log c.loop-place.place one.exchange;
      told = each_told (λ s. instance_in g.L.Peer.view s) (call_of c.args.ask) c.args.slots.now c.loop-place.slots i.log i.told c.loop-place.place c.index-slots-place-in-loop-place.result c.advance-answer.new.slot
          i.rest c.loop-place-test.true asks_to_end _ one;
      says = round_more (λ s. instance_in g.L.Peer.view s) (call_of c.args.ask) c.args.slots.now c.loop-place.slots i.log i.told c.loop-place.place c.index-slots-place-in-loop-place.result c.advance-answer.new.slot
          i.rest c.loop-place-test.true (is_asked c.args.ask)
          (at_either (λ s. is_asked c.args.ask (shape_of (instance_in g.L.Peer.view s)) ≡ true) c.loop-place.place c.args.slots.now c.loop-place.slots c.index-slots-place.result c.index-slots-place-in-loop-place.result i.rest c.loop-place-test.true
          (sym c.is_asked.ensures ∙ c.if-not-is_asked.false)) c.loop-place.so_far c.with_answer-so_far.result _ c.advance-answer.result c.with_answer-so_far.ensures refl i.says one;
    }

pub returns-clause-round : goal.returns-clause-round
returns-clause-round g c =
    let is = instances g.L.Peer.view c.args.slots.now in
    let i = c.loop-place.invariant in
    record {
      log = i.log;
      told = i.told;
      says = subst (λ (cs : List ComponentCall). RoundSays (shapes is) cs any_asks_to_end i.log c.loop-place.so_far)
          (those_all (is_asked c.args.ask) (call_of c.args.ask) (shapes is) c.loop-place.place
          (subst (λ n. n ≤ c.loop-place.place) (sym (length-map is shape_of ∙ length-map c.args.slots.now (λ t. instance_in g.L.Peer.view t))) c.loop-place-test.false)) i.says;
    }
