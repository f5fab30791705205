use Rattle.std.proofs.Common.{◌≡◌, ◌==◌, false, ap, sym, ◌∙◌}
use Rattle.std.specs.Prelude.{◌&&◌}
use Rattle.std.proofs.lemmas.List.Elements.{All-more}
use Rattle.fmu_peer.specs.CloseAll.{instance_in}
use Rattle.fmu_peer.proofs.OrderLemmas.{found_lost, found_none, all_taken}
use Rattle.fmu_peer.proofs.slot.is_source_lost.Goals as goal

pub loop-slot-preserved : goal.loop-slot-preserved
loop-slot-preserved g c =
    All-more (λ s. (s.is_fatal && s.source.0 == c.args.source.0) ≡ false) c.args.slots.now c.loop-slot.slot-index c.slot-item.result c.loop-slot-test.true c.loop-slot.invariant
    (ap (λ s. s.is_fatal && s.source.0 == c.args.source.0) (sym c.slot-item.is) ∙ sym c.is_lost_of.ensures ∙ c.if-is_lost_of.false)

pub returns : goal.returns
returns g c =
    found_none (λ s. instance_in g.L.Peer.view s) c.args.source.0 c.args.slots.now
    (all_taken (λ s. (s.is_fatal && s.source.0 == c.args.source.0) ≡ false) c.args.slots.now c.loop-slot.slot-index c.loop-slot-test.false c.loop-slot.invariant)

pub returns-then-is_lost_of : goal.returns-then-is_lost_of
returns-then-is_lost_of g c =
    found_lost (λ s. instance_in g.L.Peer.view s) c.args.source.0 c.args.slots.now c.loop-slot.slot-index c.slot-item.result c.loop-slot-test.true
    (ap (λ s. s.is_fatal && s.source.0 == c.args.source.0) (sym c.slot-item.is) ∙ sym c.is_lost_of.ensures ∙ c.if-is_lost_of.true)
