use Rattle.std.proofs.Common.{subst, refl, sym, ap, ◌∙◌, length}
use Rattle.sim_base.specs.Sink.{SinkView}
use Rattle.slot_calls.specs.Slots.{instances}
use Rattle.slot_calls.specs.Log.{Told}
use Rattle.calling_sequence.specs.Holding.{ResumesSlots, spot_in}
use Rattle.step_master.specs.Standing.{IsResumed, MayRun}
use Rattle.step_master.proofs.Resuming.{runs_rest, runs_whole}
use Rattle.step_master.proofs.FreshLemmas.{written_back}
use Rattle.step_master.proofs.master.Master.run.Goals as goal

pub returns-in-None : goal.returns-in-None
returns-in-None g c =
    let view = g.L.Peer.view in
    let is = c.deref_mut.ensures.value in
    let r = c.run_slots.ensures in
    let slots = c.args.self.now.slot_table.slots in
    let back = written_back slots.items c.run_slots.new.slots slots.len (sym (ap length is) ∙ c.deref_mut.ensures.len) (c.run_slots.auto.slots ∙ ap length is) in
    runs_whole c.args.self.now.held c.in-None.is (record {
      log = r.log;
      is = r.is;
      told = subst (λ news. Told r.log (instances view slots.items) (instances view news)) (sym back) (subst (λ olds. Told r.log (instances view olds) (instances view c.run_slots.new.slots)) is r.told);
      ends = r.ends;
      system_is = refl;
      bound_is = refl;
      plan_is = refl;
      run = refl;
      counted = r.counted_is;
    })

pub returns-in-Some : goal.returns-in-Some
returns-in-Some g c =
    let view = g.L.Peer.view in
    let m = c.args.self.now in
    let e = m.experiment in
    let held = c.in-Some.held in
    let is = c.deref_mut-in-Some.ensures.value in
    let slots = m.slot_table.slots in
    let before : SinkView = g.O.Sink.view c.args.out.now in
    let after : SinkView = g.O.Sink.view c.resume_slots.new.out in
    let count = c.resume_slots.new.buffers.instants in
    let s = spot_in e.system held in
    let news = c.resume_slots.new.slots in
    let ready : IsResumed view held m = subst (MayRun view m) c.in-Some.is c.requires.begins in
    let back = written_back slots.items news slots.len (sym (ap length is) ∙ c.deref_mut-in-Some.ensures.len) (c.resume_slots.auto.slots ∙ ap length is) in
    runs_rest m.held held c.in-Some.is (record {
      resumes = subst (λ xs. ResumesSlots e s held.states (instances view slots.items) (instances view xs) before after count c.resume_slots.result) (sym back)
          (subst (λ xs. ResumesSlots e s held.states (instances view xs) (instances view news) before after count c.resume_slots.result) is
          (subst (λ states. ResumesSlots e s states (instances view c.deref_mut-in-Some.result.now) (instances view news) before after count c.resume_slots.result) c.as_slice.ensures
          (subst (λ t. ResumesSlots e t c.as_slice.result.now (instances view c.deref_mut-in-Some.result.now) (instances view news) before after count c.resume_slots.result) ready.spot_is c.resume_slots.ensures)));
      stays = record { system_is = refl; bound_is = refl; plan_is = refl; run = refl };
    })
