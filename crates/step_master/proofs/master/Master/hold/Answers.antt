use Rattle.std.proofs.Common.{subst, refl, sym, ap, ◌∙◌, length}
use Rattle.sim_base.specs.Sink.{SinkView}
use Rattle.slot_calls.specs.Slots.{instances}
use Rattle.calling_sequence.specs.Holding.{HoldsSlots}
use Rattle.calling_sequence.specs.Ready.{MayBegin}
use Rattle.step_master.specs.Standing.{MayRun}
use Rattle.step_master.proofs.CallerLemmas.{can_keep}
use Rattle.step_master.proofs.FreshLemmas.{written_back}
use Rattle.step_master.proofs.master.Master.hold.Goals as goal

pub hold_slots-requires-after_bounds : goal.hold_slots-requires-after_bounds
hold_slots-requires-after_bounds g c κs within =
    let view = g.L.Peer.view in
    let m = c.args.self.now in
    let begins : MayBegin view m.experiment m.slot_table.slots.items m.buffers = subst (MayRun view m) c.requires.prepared c.requires.ready.begins in
    record {
      begins = subst (λ slots. MayBegin view m.experiment slots m.buffers) (sym c.deref_mut.ensures.value) begins;
      can = can_keep m.experiment.system m.experiment.plan begins.ready.may.sound c.requires.holdable;
      resolution = c.requires.resolution;
      roomy = c.requires.ready.roomy c.requires.prepared c.requires.holdable;
      from = c.requires.from;
      to = c.requires.before;
    }

pub returns : goal.returns
returns g c =
    let view = g.L.Peer.view in
    let is = c.deref_mut.ensures.value in
    let e = c.args.self.now.experiment in
    let before : SinkView = g.O.Sink.view c.args.out.now in
    let after : SinkView = g.O.Sink.view c.hold_slots.new.out in
    let slots = c.args.self.now.slot_table.slots in
    let back = written_back slots.items c.hold_slots.new.slots slots.len (sym (ap length is) ∙ c.deref_mut.ensures.len) (c.hold_slots.auto.slots ∙ ap length is) in
    record {
      holds = subst (λ news. HoldsSlots e c.args.at (instances view slots.items) (instances view news) before after c.hold_slots.result) (sym back)
          (subst (λ olds. HoldsSlots e c.args.at (instances view olds) (instances view c.hold_slots.new.slots) before after c.hold_slots.result) is c.hold_slots.ensures);
      stays = record { system_is = refl; bound_is = refl; plan_is = refl; run = refl };
    }
