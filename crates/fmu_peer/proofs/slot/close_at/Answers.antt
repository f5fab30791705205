use Rattle.std.proofs.Common.{ap, sym, subst, ◌∙◌}
use Rattle.std.specs.Prelude.{map}
use Rattle.fmu_peer.specs.CloseAll.{Closes, instance_in, is_source_lost}
use Rattle.fmu_peer.proofs.OrderLemmas.{closed_at, get_or_same}
use Rattle.fmu_peer.proofs.slot.close_at.Goals as goal

pub returns : goal.returns
returns g c =
    closed_at (λ s. instance_in g.L.Peer.view s) c.args.slots.now c.args.place c.index-slots-place-2.result c.replace_with.new.dest c.is_source_lost-is_spared.result
    c.requires c.index-slots-place-2.is
    (c.is_source_lost-is_spared.ensures ∙ ap (λ s. is_source_lost s.source.0 (map (λ t. instance_in g.L.Peer.view t) c.args.slots.now))
    (get_or_same (λ s. instance_in g.L.Peer.view s) c.args.slots.now c.args.place c.index-slots-place.result c.index-slots-place-2.result c.requires ∙ sym c.index-slots-place-2.is))
    (subst (λ s. Closes c.is_source_lost-is_spared.result (instance_in g.L.Peer.view s) (instance_in g.L.Peer.view c.replace_with.new.dest)) (sym c.index-slots-place-2.is) c.replace_with.ensures)
