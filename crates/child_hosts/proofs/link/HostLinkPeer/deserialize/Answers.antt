use Rattle.std.proofs.Common.{◌≡◌, ℕ, List, subst, sym}
use Rattle.std.specs.Prelude.{Result}
use Rattle.fmi_calls.specs.declared.call.Call.{Call}
use Rattle.fmi_calls.specs.declared.call.Reply.{Reply}
use Rattle.fmu_link.specs.Wire.{WireView}
use Rattle.fmu_peer.specs.View.{AskedWith, View}
use Rattle.fmu_peer.specs.declared.peer.PeerFault.{PeerFault}
use Rattle.bench_fmus.specs.BuiltInView.{built_in_view}
use Rattle.bench_fmus.specs.declared.built_in.BuiltIn.{BuiltIn}
use Rattle.child_hosts.specs.Links.{link_view}
use Rattle.child_hosts.specs.declared.link.HostLink.{HostLink}
use Rattle.child_hosts.proofs.link.HostLinkPeer.deserialize.Goals as goal

asked_at : {W : Type 0} (view : W → WireView) (link same : HostLink W) (call : Call) (bytes : List ℕ) (result : Result Reply PeerFault) (new : View) → link ≡ same → AskedWith (link_view view same) call bytes result new →
    AskedWith (link_view view link) call bytes result new
asked_at view link same call bytes result new is asked = subst (λ (l : HostLink _). AskedWith (link_view view l) call bytes result new) (sym is) asked

pub returns-in-BuiltIn-clause-asked : goal.returns-in-BuiltIn-clause-asked
returns-in-BuiltIn-clause-asked g c =
    asked_at g.W.Wire.view _ _ c.args.call.now c.args.bytes.now c.deserialize.result _ c.in-BuiltIn.is
    (subst (λ (b : BuiltIn). AskedWith (built_in_view b) c.args.call.now c.args.bytes.now c.deserialize.result (built_in_view c.deserialize.new.self)) c.deref_mut.ensures.value c.deserialize.ensures.asked)
