use Rattle.std.proofs.Common.{◌≡◌, ◌<◌, ◌≤◌, ◌∙◌, arith, Option, subst, sym}
use Rattle.std.specs.Prelude.{All}
use Rattle.slot_calls.specs.declared.bad_answer.BadAnswer.{BadAnswer}
use Rattle.rollback.specs.Places.{Sends, told_by}
use Rattle.rollback.specs.Standing.{HasStepped}
use Rattle.rollback.specs.declared.asking.Turn.TheVariants as T
use Rattle.rollback.specs.declared.places.Who.TheVariants as W
use Rattle.rollback.proofs.AtOnce.{can_step, done_once, not_made, stepped_once, stops_once}
use Rattle.rollback.proofs.SavedSteps.{early_counted, early_in}
use Rattle.rollback.proofs.Sending.{none_bad, some_bad}
use Rattle.rollback.proofs.stepping.agreed_step.Goals as goal

pub send_well-requires-clause-can : goal.send_well-requires-clause-can
send_well-requires-clause-can g c κs within =
    let view = g.L.Peer.view in
    let counted = c.early_count.ensures ∙ early_counted view c.args.slots.now in
    let few = c.if-early_count-gt0.false in
    let none : early_in view c.args.slots.now ≡ 0 = omega (arith, counted, few) in
    can_step view c.args.t c.args.bound c.args.step c.requires.later c.if-bound-t.false c.args.slots.now c.requires.ready none c.requires.saves

pub returns-then-send_well-clause-stepped : goal.returns-then-send_well-clause-stepped
returns-then-send_well-clause-stepped g c =
    let view = g.L.Peer.view in
    let counted = c.early_count.ensures ∙ early_counted view c.args.slots.now in
    let few = c.if-early_count-gt0.false in
    let none : early_in view c.args.slots.now ≡ 0 = omega (arith, counted, few) in
    let sent = subst (λ (o : Option BadAnswer). Sends view W.Everyone (T.Step c.args.t c.args.bound) c.args.slots.now c.send_well.new.slots (told_by o)) (none_bad _ (sym c.if-send_well.true ∙ c.send_well.ensures.well)) c.send_well.ensures.sends in
    stepped_once view c.args.t c.args.bound c.args.step c.requires.later c.if-bound-t.false c.args.slots.now c.requires.ready none c.requires.saves c.send_well.new.slots (omega arith) sent

pub returns-then-send_well-clause-steps : goal.returns-then-send_well-clause-steps
returns-then-send_well-clause-steps g c =
    let view = g.L.Peer.view in
    let counted = c.early_count.ensures ∙ early_counted view c.args.slots.now in
    let few = c.if-early_count-gt0.false in
    let none : early_in view c.args.slots.now ≡ 0 = omega (arith, counted, few) in
    let sent = subst (λ (o : Option BadAnswer). Sends view W.Everyone (T.Step c.args.t c.args.bound) c.args.slots.now c.send_well.new.slots (told_by o)) (none_bad _ (sym c.if-send_well.true ∙ c.send_well.ensures.well)) c.send_well.ensures.sends in
    done_once view c.args.t c.args.bound c.args.step c.requires.later c.if-bound-t.false c.args.slots.now c.requires.ready none c.requires.saves c.send_well.new.slots (omega arith) sent c.some_ask.result c.some_ask.ensures

pub bad_step-requires-clause-some : goal.bad_step-requires-clause-some
bad_step-requires-clause-some g c κs within = some_bad _ (sym c.if-send_well.false ∙ c.send_well.ensures.well)

pub returns-else-send_well-clause-later : goal.returns-else-send_well-clause-later
returns-else-send_well-clause-later g c = not_made c.bad_step.result c.bad_step.ensures.none (λ agreed. c.args.t < agreed.point)

pub returns-else-send_well-clause-within : goal.returns-else-send_well-clause-within
returns-else-send_well-clause-within g c = not_made c.bad_step.result c.bad_step.ensures.none (λ agreed. agreed.point ≤ c.args.bound)

pub returns-else-send_well-clause-stepped : goal.returns-else-send_well-clause-stepped
returns-else-send_well-clause-stepped g c = not_made c.bad_step.result c.bad_step.ensures.none (λ agreed. All (HasStepped g.L.Peer.view agreed.point c.args.step) c.send_well.new.slots)

pub returns-else-send_well-clause-steps : goal.returns-else-send_well-clause-steps
returns-else-send_well-clause-steps g c =
    let view = g.L.Peer.view in
    let counted = c.early_count.ensures ∙ early_counted view c.args.slots.now in
    let few = c.if-early_count-gt0.false in
    let none : early_in view c.args.slots.now ≡ 0 = omega (arith, counted, few) in
    stops_once view c.args.t c.args.bound c.args.step c.requires.later c.if-bound-t.false c.args.slots.now c.requires.ready none c.requires.saves c.send_well.new.slots (omega arith) _ c.send_well.ensures.sends c.bad_step.result c.bad_step.ensures.none c.bad_step.new.unmade c.bad_step.ensures.bad
