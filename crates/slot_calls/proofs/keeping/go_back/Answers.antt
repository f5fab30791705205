use Rattle.std.proofs.Common.{refl, ap}
use Rattle.std.specs.Prelude.{◌||◌}
use Rattle.slot_calls.proofs.StatesAsBytes.{resumed_one}
use Rattle.slot_calls.proofs.keeping.go_back.Goals as goal

pub returns : goal.returns
returns g c =
    resumed_one g.L.Peer.view c.args.slot.now _ c.resume_held-answer.result c.requires.live c.resume_held-answer.ensures refl refl (ap (λ b. c.args.slot.now.is_fatal || b) c.is_fatal.ensures)
