use Rattle.std.proofs.Common.{refl, ap}
use Rattle.std.specs.Prelude.{◌||◌}
use Rattle.slot_calls.specs.Carried.{reply_in, with_some}
use Rattle.std.proofs.Common.{◌∙◌, sym}
use Rattle.slot_calls.proofs.Moving.{fatal_some, live_on, mode_keeps, ok_some, one_moved}
use Rattle.slot_calls.proofs.sending.send.Goals as goal

pub returns-clause-one : goal.returns-clause-one
returns-clause-one g c =
    one_moved g.L.Peer.view c.args.slot.now (record c.args.slot.now { held = c.send_held-answer.new.held; is_fatal = c.args.slot.now.is_fatal || c.is_fatal.result }) c.args.call reply_in (with_some c.send_held-answer.result) c.send_held-answer.ensures.moves refl refl (mode_keeps c.args.call c.requires.sort)
    (ap (λ b. c.args.slot.now.is_fatal || b) (c.is_fatal.ensures ∙ sym (fatal_some c.send_held-answer.result)))

pub returns-clause-live : goal.returns-clause-live
returns-clause-live g c =
    ok_some _ c.send_held-answer.result (live_on g.L.Peer.view c.args.slot.now _ c.args.call reply_in (with_some c.send_held-answer.result) (returns-clause-one g c) c.requires.live c.send_held-answer.ensures.moves.live)
