use Rattle.std.proofs.Common.{◌≡◌, ◌++◌, List, map}
use Rattle.std.specs.Vec.Iter.{into_iter_items, into_iter_len}
use Rattle.fmu_peer.specs.View.{View}
use Rattle.run_program.specs.Peers.{with_all_retired}
use Rattle.run_program.proofs.peers.retire_each.Given as goal

abbrev pub invariant-loop-peer : goal.invariant-loop-peer
invariant-loop-peer g l =
    let view = g.S.Link.Peer.view in
    record {
      done : List View;
      given : map view l.fn.peers.items ≡ done ++ map view (into_iter_items l.left);
      told : g.S.Spawner.view l.spawner ≡ with_all_retired (g.S.Spawner.view l.fn.spawner) done;
    }

abbrev pub decreases-loop-peer : goal.decreases-loop-peer
decreases-loop-peer g l = into_iter_len l.left
