use Rattle.std.proofs.Common.{◌≡◌, refl, sym, ap, ◌∙◌, subst, length, map, false}
use Rattle.std.specs.Prelude.{All, is_some}
use Rattle.fmu_peer.specs.CloseAll.{ClosesAll, instance_in, peer_in}
use Rattle.step_master.specs.FreshInstances.{views_of}
use Rattle.slot_calls.specs.Slots.{instances}
use Rattle.step_master.proofs.FreshLemmas.{spent_all, views_same, written_back}
use Rattle.step_master.proofs.slot_table.SlotTable.close.Goals as goal

pub give_back-requires-clause-spent : goal.give_back-requires-clause-spent
give_back-requires-clause-spent g c κs within =
    let is = c.deref_mut.ensures.value in
    subst (All (λ s. is_some s.saved ≡ false)) (sym (written_back c.args.self.slots.items c.close_all.new.slots c.args.self.slots.len (sym (ap length is) ∙ c.deref_mut.ensures.len) (c.close_all.auto.slots ∙ ap length is)))
    (spent_all (λ s. instance_in g.L.Peer.view s) _ c.close_all.new.slots c.close_all.ensures)

pub returns : goal.returns
returns g c =
    let view = g.L.Peer.view in
    let is = c.deref_mut.ensures.value in
    let back = written_back c.args.self.slots.items c.close_all.new.slots c.args.self.slots.len (sym (ap length is) ∙ c.deref_mut.ensures.len) (c.close_all.auto.slots ∙ ap length is) in
    record {
      ends = instances view c.close_all.new.slots;
      closes = subst (λ slots. ClosesAll (instances view slots) (instances view c.close_all.new.slots)) is c.close_all.ensures;
      news_are = ap (map view) c.give_back.ensures ∙ views_same view (λ s. peer_in s.held) (λ s. instance_in view s) (λ s. refl) _ ∙ ap (λ slots. views_of (instances view slots)) back;
    }
