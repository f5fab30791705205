use Rattle.std.proofs.Common.{List, ℕ, arith, ◌≡◌, ◌+◌, ◌∷◌, [], length, length-append, map, take, refl, sym, ap, subst, ◌∙◌}
use Rattle.std.specs.Prelude.{slice_get}
use Rattle.std.proofs.lemmas.List.{length-map, map-append, take_all}
use Rattle.std.proofs.lemmas.List.Elements.{All-nil}
use Rattle.std.proofs.lemmas.Option.{none-some as none_some, slice_get_read}
use Rattle.fmu_peer.specs.Start.{IsMade, IsStarted, SpawnerView}
use Rattle.run_program.specs.Peers.{AreKnown, AreMade, AreStarted}
use Rattle.run_program.proofs.PeerLemmas.{known_more, made_more, none_started, noted_fault, one_started, started_more}
use Rattle.run_program.proofs.peers.start_each.Goals as goal

pub loop-place-init : goal.loop-place-init
loop-place-init g c = record {
  each = ap length c.requires.empty;
  within = omega arith;
  room = c.requires.room;
  are = subst (λ (xs : List g.row.S-Link.Denot). AreStarted c.args.host.now c.args.folders.now c.args.components.now (map g.S.Link.Peer.view xs)) (sym c.requires.empty) tt;
  made = subst (λ (xs : List g.row.S-Link.Denot). AreMade c.args.host.now (g.S.Spawner.view c.args.spawner.now) c.args.components.now (map g.S.Link.Peer.view xs)) (sym c.requires.empty)
      (λ i d v at there. absurd (none_some v there));
  known = All-nil _;
  told = none_started (g.S.Spawner.view c.args.spawner.now);
}

pub push_reserved-requires : goal.push_reserved-requires
push_reserved-requires g c =
    let each = c.loop-place.invariant.each in
    let room = c.loop-place.invariant.room in
    let within = c.loop-place-test.true in
    omega (arith, each, room, within)

pub returns-in-Err-clause-err : goal.returns-in-Err-clause-err
returns-in-Err-clause-err g c =
    let i = c.loop-place.invariant in
    let component = c.index-components-place.result in
    record {
      component = component;
      here = slice_get_read c.args.components.now _ c.loop-place.place component refl c.loop-place-test.true c.index-components-place.is;
      each = length-map c.loop-place.peers.items g.S.Link.Peer.view ∙ i.each;
      are = i.are;
      known = i.known;
      noted = noted_fault g.row.S-Link.Denot c.args.host.now c.in-Err.fault component (g.S.Spawner.view c.args.spawner.now) (g.S.Spawner.view c.loop-place.spawner) (g.S.Spawner.view c.start_one.new.spawner) c.loop-place.place
          i.told c.in-Err.ensures.noted c.in-Err.ensures.unknown;
    }

pub loop-place-preserved : goal.loop-place-preserved
loop-place-preserved g c =
    let i = c.loop-place.invariant in
    let view = g.S.Link.Peer.view in
    let component = c.index-components-place.result in
    let here = slice_get_read c.args.components.now _ c.loop-place.place component refl c.loop-place-test.true c.index-components-place.is in
    let folder = c.index-folders-place.result in
    let there = slice_get_read c.args.folders.now _ c.loop-place.place folder refl (let t = c.loop-place-test.true in let n = c.requires.folders in omega (arith, t, n)) c.index-folders-place.is in
    let started : IsStarted c.args.host.now component.name folder component.shape (view c.in-Ok.peer) =
    subst (λ (at : List ℕ). IsStarted c.args.host.now component.name at component.shape (view c.in-Ok.peer)) c.as_str.ensures c.in-Ok.ensures.fresh in
    record {
      each = ap length c.push_reserved.ensures.items ∙ length-append c.loop-place.peers.items (c.in-Ok.peer ∷ []) ∙ ap (λ (n : ℕ). n + 1) i.each;
      within = let w = c.loop-place-test.true in omega (arith, w);
      room = let r = i.room in let k = c.push_reserved.ensures.capacity in omega (arith, r, k);
      are = subst (AreStarted c.args.host.now c.args.folders.now c.args.components.now) (sym (ap (map view) c.push_reserved.ensures.items ∙ map-append view c.loop-place.peers.items (c.in-Ok.peer ∷ [])))
          (started_more c.args.host.now c.args.folders.now c.args.components.now (map view c.loop-place.peers.items) folder component (view c.in-Ok.peer) i.are
          (ap (λ (n : ℕ). slice_get c.args.folders.now n) (length-map c.loop-place.peers.items view ∙ i.each) ∙ there)
          (ap (λ (n : ℕ). slice_get c.args.components.now n) (length-map c.loop-place.peers.items view ∙ i.each) ∙ here) started);
      made = subst (AreMade c.args.host.now (g.S.Spawner.view c.args.spawner.now) c.args.components.now) (sym (ap (map view) c.push_reserved.ensures.items ∙ map-append view c.loop-place.peers.items (c.in-Ok.peer ∷ [])))
          (made_more c.args.host.now (g.S.Spawner.view c.args.spawner.now) c.args.components.now (map view c.loop-place.peers.items) component (view c.in-Ok.peer) i.made
          (ap (λ (n : ℕ). slice_get c.args.components.now n) (length-map c.loop-place.peers.items view ∙ i.each) ∙ here)
          (subst (λ (s : SpawnerView). IsMade s c.args.host.now component.shape (view c.in-Ok.peer)) i.told c.in-Ok.ensures.made));
      known = known_more c.args.host.now (g.S.Spawner.view c.args.spawner.now) c.args.components.now c.loop-place.place component i.known here
          (sym (ap (λ s. s.knows c.args.host.now component.shape.identifier) i.told) ∙ c.in-Ok.ensures.unknown);
      told = one_started (g.S.Spawner.view c.args.spawner.now) (g.S.Spawner.view c.loop-place.spawner) (g.S.Spawner.view c.start_one.new.spawner) c.loop-place.place i.told c.in-Ok.ensures.noted;
    }

pub returns-clause-ok : goal.returns-clause-ok
returns-clause-ok g c =
    let i = c.loop-place.invariant in
    let n : length (map g.S.Link.Peer.view c.loop-place.peers.items) ≡ c.loop-place.place = length-map c.loop-place.peers.items g.S.Link.Peer.view ∙ i.each in
    let past = c.loop-place-test.false in
    let all : c.loop-place.place ≡ length c.args.components.now = let w = i.within in omega (arith, past, w) in
    record {
      each = n ∙ all;
      are = i.are;
      made = i.made;
      known = subst (AreKnown c.args.host.now (g.S.Spawner.view c.args.spawner.now)) (ap (λ (k : ℕ). take k c.args.components.now) all ∙ take_all (length c.args.components.now) c.args.components.now (omega arith)) i.known;
      told = i.told ∙ ap (λ (k : ℕ). record (g.S.Spawner.view c.args.spawner.now) { started = (g.S.Spawner.view c.args.spawner.now).started + k }) (sym n);
    }
