use Rattle.std.specs.Prelude.{[], ◌∷◌}
use Rattle.fmi_calls.specs.declared.call.Call.TheVariants as C
use Rattle.fmu_peer.proofs.CloseLemmas.{then_first, then_rest}
use Rattle.fmu_peer.proofs.closing.end_peer.Goals as goal

pub returns-then-terminated : goal.returns-then-terminated
returns-then-terminated g c =
    then_first (g.L.Peer.view c.args.peer.now) (g.L.Peer.view c.send-terminated.new.peer) (g.L.Peer.view c.send-freed.new.peer) C.Terminate (C.FreeInstance ∷ [])
    c.send-terminated.result c.send-freed.result c.if-terminated.true c.send-terminated.ensures c.send-freed.ensures

pub returns-else-terminated : goal.returns-else-terminated
returns-else-terminated g c =
    then_rest (g.L.Peer.view c.args.peer.now) (g.L.Peer.view c.send-terminated.new.peer) (g.L.Peer.view c.send-freed.new.peer) C.Terminate (C.FreeInstance ∷ [])
    c.send-terminated.result c.send-freed.result c.if-terminated.false c.send-terminated.ensures c.send-freed.ensures
