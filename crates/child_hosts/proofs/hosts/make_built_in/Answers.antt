use Rattle.std.proofs.Common.{◌≡◌, [], Option, ap, subst, sym, ◌∙◌}
use Rattle.std.specs.Prelude.{IfSome}
use Rattle.fmu_peer.specs.declared.talk_room.TalkRoom.{TalkRoom}
use Rattle.bench_fmus.specs.Told.{origin_in}
use Rattle.bench_fmus.proofs.CallerLemmas.{is_started}
use Rattle.child_hosts.proofs.hosts.make_built_in.Goals as goal

pub returns-clause-fresh : goal.returns-clause-fresh
returns-clause-fresh c =
    let made = c.in_ok-peer.ensures in
    is_started c.args.host.now c.args.name.now c.args.directory.now c.args.shape.now c.in_ok-peer.peer
    (ap origin_in (made.origin ∙ c.in_ok-origin.ensures)) made.shape made.phase
    (subst (λ (t : Option TalkRoom). IfSome t (λ (r : TalkRoom). r.exchanges.items ≡ [])) (sym made.talk) tt) made.faults made.state
