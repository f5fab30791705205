use Rattle.std.proofs.Common.{refl, ap}
use Rattle.std.specs.Prelude.{◌||◌}
use Rattle.slot_calls.proofs.Several.{all_by, live_by, stops_by}
use Rattle.slot_calls.proofs.sending.send_many.Goals as goal

pub returns-clause-all : goal.returns-clause-all
returns-clause-all g c =
    all_by g.L.Peer.view c.args.slot.now (record c.args.slot.now { held = c.many_held-answer.new.held; is_fatal = c.args.slot.now.is_fatal || c.is_fatal.result }) c.args.calls.now c.requires.sort refl refl c.many_held-answer.result c.many_held-answer.new.replies c.many_held-answer.ensures.places c.many_held-answer.ensures.all
    (ap (λ b. c.args.slot.now.is_fatal || b) c.is_fatal.ensures)

pub returns-clause-stops : goal.returns-clause-stops
returns-clause-stops g c =
    stops_by g.L.Peer.view c.args.slot.now (record c.args.slot.now { held = c.many_held-answer.new.held; is_fatal = c.args.slot.now.is_fatal || c.is_fatal.result }) c.args.calls.now c.requires.sort refl refl c.many_held-answer.result c.many_held-answer.ensures.stops
    (ap (λ b. c.args.slot.now.is_fatal || b) c.is_fatal.ensures)

pub returns-clause-live : goal.returns-clause-live
returns-clause-live g c =
    live_by g.L.Peer.view c.args.slot.now (record c.args.slot.now { held = c.many_held-answer.new.held; is_fatal = c.args.slot.now.is_fatal || c.is_fatal.result }) c.args.calls.now c.requires.sort refl refl c.many_held-answer.result c.many_held-answer.new.replies c.many_held-answer.ensures.places c.many_held-answer.ensures.all c.many_held-answer.ensures.live c.requires.live
