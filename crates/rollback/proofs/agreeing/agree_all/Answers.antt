use Rattle.std.proofs.Common.{Ok, arith, subst}
use Rattle.rollback.specs.Asked.{TurnOver}
use Rattle.rollback.specs.declared.agreeing.Turned.{Turned}
use Rattle.rollback.proofs.Going.{going_first, turn_goes, turn_meets, turn_stops}
use Rattle.rollback.proofs.agreeing.agree_all.Goals as goal

pub loop-point-init : goal.loop-point-init
loop-point-init g c = going_first g.L.Peer.view c.args.t c.args.step c.args.bound c.args.slots.now c.requires.placed c.requires.begin c.requires.saved c.requires.several c.requires.later

pub returns-in-Ok-Met : goal.returns-in-Ok-Met
returns-in-Ok-Met g c = turn_meets g.L.Peer.view c.args.t c.args.step c.args.bound c.args.slots.now c.loop-point.bound c.loop-point.slots c.loop-point.invariant c.take_turn.new.slots (omega arith) c.in-Ok-Met.point (subst (λ (x : Turned). TurnOver g.L.Peer.view c.args.t c.args.step c.loop-point.bound c.loop-point.slots c.take_turn.new.slots (Ok x)) c.in-Ok-Met.field-0-is c.in-Ok-Met.ensures)

pub loop-point-preserved : goal.loop-point-preserved
loop-point-preserved g c = turn_goes g.L.Peer.view c.args.t c.args.step c.args.bound c.args.slots.now c.loop-point.bound c.loop-point.slots c.loop-point.invariant c.take_turn.new.slots (omega arith) c.in-Ok-Anew.next (subst (λ (x : Turned). TurnOver g.L.Peer.view c.args.t c.args.step c.loop-point.bound c.loop-point.slots c.take_turn.new.slots (Ok x)) c.in-Ok-Anew.field-0-is c.in-Ok-Anew.ensures)

pub returns-in-Err : goal.returns-in-Err
returns-in-Err g c = turn_stops g.L.Peer.view c.args.t c.args.step c.args.bound c.args.slots.now c.loop-point.bound c.loop-point.slots c.loop-point.invariant c.take_turn.new.slots c.in-Err.end c.in-Err.ensures
