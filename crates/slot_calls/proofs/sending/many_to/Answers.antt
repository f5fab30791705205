use Rattle.fmu_peer.proofs.KeptStates.{answered_keeps}
use Rattle.slot_calls.proofs.sending.many_to.Goals as goal

pub returns-in-Ok-clause-state : goal.returns-in-Ok-clause-state
returns-in-Ok-clause-state g c =
    (answered_keeps (g.L.Peer.view c.args.fmu.now.peer) (g.L.Peer.view c.many.new.self.peer) c.args.calls.now c.many.new.replies c.in-Ok.ensures.ok c.in-Ok.ensures.places c.requires.sort).state
