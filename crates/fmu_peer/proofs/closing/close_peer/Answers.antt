use Rattle.std.proofs.Common.{Bool, subst, sym}
use Rattle.fmi_calls.specs.declared.call.Call.TheVariants as C
use Rattle.fmu_peer.specs.Close.{ClosesWith, closing_calls}
use Rattle.std.specs.Prelude.{false}
use Rattle.fmu_peer.proofs.CloseLemmas.{then_first, then_rest}
use Rattle.fmu_peer.proofs.closing.close_peer.Goals as goal

pub returns-then-freed : goal.returns-then-freed
returns-then-freed g c =
    subst (λ (b : Bool). ClosesWith (closing_calls b) (g.L.Peer.view c.args.peer.now) c.send-freed.result (g.L.Peer.view c.end_peer-ended.new.peer)) (sym c.if-has_saved.true)
    (then_first (g.L.Peer.view c.args.peer.now) (g.L.Peer.view c.send-freed.new.peer) (g.L.Peer.view c.end_peer-ended.new.peer) C.Free (closing_calls false)
    c.send-freed.result c.end_peer-ended.result c.if-freed.true c.send-freed.ensures c.end_peer-ended.ensures)

pub returns-else-freed : goal.returns-else-freed
returns-else-freed g c =
    subst (λ (b : Bool). ClosesWith (closing_calls b) (g.L.Peer.view c.args.peer.now) c.end_peer-ended.result (g.L.Peer.view c.end_peer-ended.new.peer)) (sym c.if-has_saved.true)
    (then_rest (g.L.Peer.view c.args.peer.now) (g.L.Peer.view c.send-freed.new.peer) (g.L.Peer.view c.end_peer-ended.new.peer) C.Free (closing_calls false)
    c.send-freed.result c.end_peer-ended.result c.if-freed.false c.send-freed.ensures c.end_peer-ended.ensures)
