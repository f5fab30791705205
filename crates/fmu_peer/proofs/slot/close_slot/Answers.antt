use Rattle.std.proofs.Common.{◌≡◌, refl, ap, ◌∙◌}
use Rattle.std.specs.Prelude.{◌||◌}
use Rattle.fmu_peer.proofs.CloseLemmas.{or_first, or_second, closes_same, closes_spared, closes_called}
use Rattle.fmu_peer.proofs.slot.close_slot.Goals as goal
use Rattle.fmu_peer.proofs.slot.close_slot.Goals.{then-is_spared, else-is_spared, then-is_fatal, else-is_fatal}

pub returns : goal.returns
returns g c =
    let closed : c.if-is_fatal.result ≡ (c.args.slot.is_fatal || c.if-is_spared.was_fatal) = elim c.if-is_fatal.branch [
      | then-is_fatal w ↦ or_first c.args.slot.is_fatal c.if-is_spared.was_fatal c.if-is_fatal.result w.if-is_fatal.true (w.result-is ∙ w.if-is_fatal.true)
      | else-is_fatal w ↦ or_second c.args.slot.is_fatal c.if-is_spared.was_fatal c.if-is_fatal.result w.if-is_fatal.false w.result-is
    ] in
    elim c.if-is_spared.branch [
      | then-is_spared w ↦ closes_spared c.args.is_spared _ _ c.if-is_spared.was_fatal w.if-is_spared.true w.was_fatal-is (ap g.L.Peer.view (w.peer-is ∙ c.into_peer-peer.ensures)) refl refl refl closed
      | else-is_spared w ↦ closes_called c.args.is_spared _ _ c.if-is_spared.was_fatal w.if-is_spared.false
          (closes_same c.give_up-has_saved.result _ (g.L.Peer.view c.into_peer-peer.result) _ w.close_peer-was_fatal.result _ (g.L.Peer.view w.close_peer-was_fatal.new.peer) _ c.give_up-has_saved.ensures (ap g.L.Peer.view c.into_peer-peer.ensures) w.was_fatal-is (ap g.L.Peer.view w.peer-is) w.close_peer-was_fatal.ensures)
          refl refl refl closed
    ]
