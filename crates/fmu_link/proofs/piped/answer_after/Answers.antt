use Rattle.std.proofs.Common.{refl}
use Rattle.fmu_link.specs.Exchange.{LineView}
use Rattle.fmu_link.proofs.StateLemmas.{calls_both, lost_first}
use Rattle.fmu_link.proofs.piped.answer_after.Goals as goal

pub returns-in-Ok : goal.returns-in-Ok
returns-in-Ok g c =
    let view = g.W.Wire.view in
    let old : LineView = record { wire = view c.args.wire.now; bad_replies = c.args.bad_replies.now } in
    let mid : LineView = record { wire = view c.send.new.self; bad_replies = c.args.bad_replies.now } in
    let new : LineView = record { wire = view c.answer_over.new.wire; bad_replies = c.answer_over.new.bad_replies } in
    calls_both old mid new c.args.frame.now c.args.bytes.now c.answer_over.result c.in-Ok.ensures.noted refl c.answer_over.ensures

pub returns-in-Err : goal.returns-in-Err
returns-in-Err g c =
    let view = g.W.Wire.view in
    let old : LineView = record { wire = view c.args.wire.now; bad_replies = c.args.bad_replies.now } in
    let new : LineView = record { wire = view c.send.new.self; bad_replies = c.args.bad_replies.now } in
    lost_first old new c.args.frame.now c.args.bytes.now _ c.in-Err.ensures.noted refl
