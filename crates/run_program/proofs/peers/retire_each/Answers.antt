use Rattle.std.proofs.Common.{List, ℕ, suc, arith, ◌≡◌, ◌+◌, ◌++◌, ◌∷◌, [], length, length-append, map, sym, ap, ◌∙◌, append_assoc}
use Rattle.std.proofs.lemmas.List.{append-nil, length-map}
use Rattle.std.proofs.lemmas.Grind.{common_steps}
use Rattle.std.specs.Vec.Iter.{into_iter_items}
use Rattle.fmu_peer.specs.Start.{SpawnerView}
use Rattle.run_program.specs.Peers.{with_all_retired}
use Rattle.run_program.proofs.PeerLemmas.{none_retired, one_retired}
use Rattle.run_program.proofs.peers.retire_each.Goals as goal

pub loop-peer-init : goal.loop-peer-init
loop-peer-init g c = record {
  done = [];
  given = ap (map g.S.Link.Peer.view) (sym c.into_iter-left.ensures.rest);
  told = none_retired (g.S.Spawner.view c.args.spawner.now);
}

pub retire-requires : goal.retire-requires
retire-requires g c =
    let i = c.loop-peer.invariant in
    let view = g.S.Link.Peer.view in
    let retired : length (g.S.Spawner.view c.loop-peer.spawner).retired ≡ length (g.S.Spawner.view c.args.spawner.now).retired + length i.done =
    ap (λ (s : SpawnerView). length s.retired) i.told ∙ length-append (g.S.Spawner.view c.args.spawner.now).retired i.done in
    let started : (g.S.Spawner.view c.loop-peer.spawner).started ≡ (g.S.Spawner.view c.args.spawner.now).started = ap (λ (s : SpawnerView). s.started) i.told in
    let all : length c.args.peers.items ≡ length i.done + (length (into_iter_items c.next.new.self) + 1) =
    sym (length-map c.args.peers.items view) ∙ ap length i.given ∙ length-append i.done (map view (into_iter_items c.loop-peer.left))
    ∙ ap (λ (n : ℕ). length i.done + n) (length-map (into_iter_items c.loop-peer.left) view ∙ ap length c.in-Some.ensures.items ∙ sym (more (length (into_iter_items c.next.new.self)))) in
    let room = c.requires in
    omega (arith, retired, started, all, room)
  where
    more : (n : ℕ) → n + 1 ≡ suc n
    more n = omega arith

pub loop-peer-preserved : goal.loop-peer-preserved
loop-peer-preserved g c =
    let i = c.loop-peer.invariant in
    let view = g.S.Link.Peer.view in
    record {
      done = i.done ++ view c.in-Some.peer ∷ [];
      given = i.given ∙ ap (λ xs. i.done ++ map view xs) c.in-Some.ensures.items ∙ sym (append_assoc i.done (view c.in-Some.peer ∷ []) (map view (into_iter_items c.next.new.self)));
      told = one_retired (g.S.Spawner.view c.args.spawner.now) (g.S.Spawner.view c.loop-peer.spawner) (g.S.Spawner.view c.retire.new.self) i.done (view c.in-Some.peer) i.told c.retire.ensures;
    }

pub returns : goal.returns
returns g c =
    let i = c.loop-peer.invariant in
    let view = g.S.Link.Peer.view in
    let none : into_iter_items c.loop-peer.left ≡ [] = grind (arith, common_steps, c.in_default.ensures.variant, c.in_default.ensures.len) in
    i.told ∙ ap (with_all_retired (g.S.Spawner.view c.args.spawner.now)) (sym (i.given ∙ ap (λ (xs : List g.row.S-Link.Denot). i.done ++ map view xs) none ∙ append-nil i.done))
