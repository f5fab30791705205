use Rattle.std.proofs.Common.{◌≡◌, ◌≤◌, length, map, take, vec_capacity}
use Rattle.run_program.specs.Peers.{AreKnown, AreMade, AreStarted, with_all_started}
use Rattle.run_program.proofs.peers.start_each.Given as goal

abbrev pub invariant-loop-place : goal.invariant-loop-place
invariant-loop-place g l =
    let view = g.S.Link.Peer.view in
    record {
      each : length l.peers.items ≡ l.place;
      within : l.place ≤ length l.components;
      room : length l.components ≤ vec_capacity l.peers;
      are : AreStarted l.host l.folders l.components (map view l.peers.items);
      made : AreMade l.host (g.S.Spawner.view l.fn.spawner) l.components (map view l.peers.items);
      known : AreKnown l.host (g.S.Spawner.view l.fn.spawner) (take l.place l.components);
      told : g.S.Spawner.view l.spawner ≡ with_all_started (g.S.Spawner.view l.fn.spawner) l.place;
    }
