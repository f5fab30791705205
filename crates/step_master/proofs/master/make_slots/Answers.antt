use Rattle.std.proofs.Common.{◌≤◌, ◌^◌, List, refl, sym, ap, ◌∙◌, subst, map, length}
use Rattle.std.proofs.lemmas.List.{length-map}
use Rattle.system_model.specs.declared.system.Component.{Component}
use Rattle.fmu_peer.specs.CloseAll.{Instance, instance_in}
use Rattle.fmu_peer.specs.Mode.{instantiate_of}
use Rattle.value_types.specs.declared.shape.Shape.{Shape}
use Rattle.slot_calls.specs.Log.{Told}
use Rattle.step_master.specs.FreshInstances.{fresh_instances}
use Rattle.slot_calls.specs.Slots.{instances}
use Rattle.slot_calls.specs.Stage.{IsAnswered, StopsAt, shapes, to_each}
use Rattle.slot_calls.proofs.CallerLemmas.{shapes_same}
use Rattle.step_master.proofs.FreshLemmas.{components_few, machines_match_shapes, peers_fresh, slots_fresh, slots_length}
use Rattle.step_master.proofs.CallerLemmas.{fresh_shapes}
use Rattle.step_master.proofs.master.make_slots.Goals as goal

pub new-requires-clause-fresh : goal.new-requires-clause-fresh
new-requires-clause-fresh g c κs within = peers_fresh c.args.experiment.now.system (map g.L.Peer.view c.args.peers.items) c.requires.peers g.L.Peer.view c.args.peers.items refl

pub make-requires-clause-few : goal.make-requires-clause-few
make-requires-clause-few g c κs within =
    let system = c.args.experiment.now.system in
    let same = c.in-Ok.ensures.ok ∙ ap (λ cs. fresh_instances cs (map g.L.Peer.view c.args.peers.items)) c.as_slice.ensures in
    subst (λ n. n ≤ 2 ^ 32) (sym (slots_length system (map g.L.Peer.view c.args.peers.items) c.requires.peers (λ s. instance_in g.L.Peer.view s) c.in-Ok.slot_table.slots.items same)) (components_few system c.requires.may.sound)

pub make-requires-clause-fresh : goal.make-requires-clause-fresh
make-requires-clause-fresh g c κs within =
    let system = c.args.experiment.now.system in
    let same = c.in-Ok.ensures.ok ∙ ap (λ cs. fresh_instances cs (map g.L.Peer.view c.args.peers.items)) c.as_slice.ensures in
    slots_fresh system (map g.L.Peer.view c.args.peers.items) c.requires.peers (λ s. instance_in g.L.Peer.view s) c.in-Ok.slot_table.slots.items same

pub returns-in-Ok-make-clause-ready : goal.returns-in-Ok-make-clause-ready
returns-in-Ok-make-clause-ready g c =
    let view = g.L.Peer.view in
    let system = c.args.experiment.now.system in
    let same = c.in-Ok.ensures.ok ∙ ap (λ cs. fresh_instances cs (map view c.args.peers.items)) c.as_slice.ensures in
    let stage = c.in-Ok-make.ensures.stage in
    let news = c.make.new.self.slots.items in
    let fits = shapes_same stage.log _ (instances view news) stage.told ∙ ap shapes same ∙ fresh_shapes system (map view c.args.peers.items) c.requires.peers in
    record {
      may = c.requires.may;
      few = subst (λ n. n ≤ 2 ^ 32) (sym (sym (length-map news (λ s. instance_in view s)) ∙ sym (length-map (instances view news) (λ (i : Instance). i.view.fixed.shape))
          ∙ ap length fits ∙ length-map system.components (λ (x : Component). x.shape))) (components_few system c.requires.may.sound);
      shapes_are = fits;
      live = c.in-Ok-make.ensures.live;
      stand = c.in-Ok-make.ensures.made;
    }

pub returns-in-Ok-make-clause-makes : goal.returns-in-Ok-make-clause-makes
returns-in-Ok-make-clause-makes g c =
    let laws = g.met.L.Peer g.world.𝓛 g.world.𝓜 g.world.𝓡 ((λ s x. x), (λ x. x), (λ x. x), λ x. x) in
    let view = g.L.Peer.view in
    let system = c.args.experiment.now.system in
    let views = map view c.args.peers.items in
    let same = c.in-Ok.ensures.ok ∙ ap (λ cs. fresh_instances cs views) c.as_slice.ensures in
    let stage = c.in-Ok-make.ensures.stage in
    let fits = ap shapes same ∙ fresh_shapes system views c.requires.peers in
    record {
      log = stage.log;
      told = subst (λ (is : List Instance). Told stage.log is (instances view c.make.new.self.slots.items)) same stage.told;
      answered = subst (λ (ss : List Shape). IsAnswered ss (to_each (instantiate_of c.args.experiment.now.plan.link) ss) stage.log) fits stage.says.0;
      machines = machines_match_shapes view c.args.peers.items laws.machine laws.lawful laws.ignores_slot system c.requires.peers;
    }

pub returns-in-Err-make-clause-err : goal.returns-in-Err-make-clause-err
returns-in-Err-make-clause-err g c =
    let view = g.L.Peer.view in
    let system = c.args.experiment.now.system in
    let views = map view c.args.peers.items in
    let same = c.in-Ok.ensures.ok ∙ ap (λ cs. fresh_instances cs views) c.as_slice.ensures in
    let stage = c.in-Err-make.ensures.stage in
    let fits = ap shapes same ∙ fresh_shapes system views c.requires.peers in
    record {
      log = stage.log;
      mids = instances view c.make.new.self.slots.items;
      told = subst (λ (is : List Instance). Told stage.log is (instances view c.make.new.self.slots.items)) same stage.told;
      stops = subst (λ (ss : List Shape). StopsAt ss (to_each (instantiate_of c.args.experiment.now.plan.link) ss) c.in-Err-make.bad stage.log) fits stage.says;
      closes = c.close.ensures;
    }
