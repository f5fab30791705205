use Rattle.std.proofs.Common.{List, ℕ, map, sym, subst}
use Rattle.system_model.specs.declared.system.Component.{Component}
use Rattle.run_program.specs.Peers.{StartsEach, StartsUpTo}
use Rattle.run_program.proofs.run.start_system.Goals as goal

pub returns-in-Ok-start_each-clause-ok : goal.returns-in-Ok-start_each-clause-ok
returns-in-Ok-start_each-clause-ok g c =
    subst (λ (cs : List Component). StartsEach c.args.host.now c.args.folders.now cs (map g.S.Link.Peer.view c.in-Ok-start_each.peers.items) (g.S.Spawner.view c.args.spawner.now) (g.S.Spawner.view c.start_each.new.spawner))
    c.as_slice-components.ensures c.in-Ok-start_each.ensures.ok

pub returns-in-Err-clause-err : goal.returns-in-Err-clause-err
returns-in-Err-clause-err g c = λ task out host folders.
    let old = g.S.Spawner.view c.args.spawner.now in
    let u = c.in-Err.unstarted in
    let peers = map g.S.Link.Peer.view u.peers.items in
    let new = g.S.Spawner.view c.start_each.new.spawner in
    let starts : StartsUpTo c.args.host.now c.args.folders.now c.args.system.now.components u.component.0 u.fault peers old new =
    subst (λ (cs : List Component). StartsUpTo c.args.host.now c.args.folders.now cs u.component.0 u.fault peers old new) c.as_slice-components.ensures c.in-Err.ensures.err in
    c.give_up.ensures task c.args.system.now old out c.in-Ok.ensures
    (subst (λ (x : List ℕ). StartsUpTo x task.folders c.args.system.now.components u.component.0 u.fault peers old new) (sym host)
    (subst (λ (fs : List (List ℕ)). StartsUpTo c.args.host.now fs c.args.system.now.components u.component.0 u.fault peers old new) (sym folders) starts))
