use Rattle.std.proofs.Common.{Some, ap, sym, ◌∙◌}
use Rattle.fmi_calls.specs.declared.phase.Phase.{Phase}
use Rattle.step_master.proofs.taking.fill_slot.Goals as goal

pub returns-clause-live : goal.returns-clause-live
returns-clause-live g c =
    let view = g.L.Peer.view in
    record {
      held = ap (λ (p : Phase). Some p.state) (sym c.requires) ∙ ap (λ l. Some (view l).phase.state) (sym c.new.ensures);
      token = ap (λ (p : Phase). p.slot.is_full) (sym c.requires) ∙ ap (λ l. (view l).phase.slot.is_full) (sym c.new.ensures);
    }
