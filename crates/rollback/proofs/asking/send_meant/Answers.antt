use Rattle.std.proofs.Common.{Option, subst, sym, ◌∙◌}
use Rattle.slot_calls.specs.declared.bad_answer.BadAnswer.{BadAnswer}
use Rattle.rollback.specs.Places.{Sends, told_by}
use Rattle.rollback.proofs.Sending.{none_bad, some_bad}
use Rattle.rollback.proofs.asking.send_meant.Goals as goal

pub returns-then-send_well : goal.returns-then-send_well
returns-then-send_well g c = subst (λ (o : Option BadAnswer). Sends g.L.Peer.view c.args.who c.args.turn c.args.slots.now c.send_well.new.slots (told_by o)) (none_bad _ (sym c.if-send_well.true ∙ c.send_well.ensures.well)) c.send_well.ensures.sends

pub bad_in-requires-clause-some : goal.bad_in-requires-clause-some
bad_in-requires-clause-some g c κs within = some_bad _ (sym c.if-send_well.false ∙ c.send_well.ensures.well)

pub returns-else-send_well : goal.returns-else-send_well
returns-else-send_well g c = subst (λ (o : Option BadAnswer). Sends g.L.Peer.view c.args.who c.args.turn c.args.slots.now c.send_well.new.slots (told_by o)) c.bad_in.ensures c.send_well.ensures.sends
