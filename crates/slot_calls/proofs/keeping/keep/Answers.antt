use Rattle.slot_calls.proofs.StatesAsBytes.{keeps_by_free, keeps_unpacked, keeps_unsaved}
use Rattle.slot_calls.proofs.keeping.keep.Goals as goal

pub returns-in-Err-clause-calls : goal.returns-in-Err-clause-calls
returns-in-Err-clause-calls g c = keeps_unsaved g.L.Peer.view c.args.slot.now c.save.new.slot c.in-Err.why c.in-Err.ensures

pub returns-in-Err-serialize-clause-calls : goal.returns-in-Err-serialize-clause-calls
returns-in-Err-serialize-clause-calls g c =
    keeps_unpacked g.L.Peer.view c.args.slot.now c.save.new.slot tt c.in-Ok.ensures c.serialize.new.slot c.in-Err-serialize.why c.in-Err-serialize.ensures.sent

pub returns-clause-calls : goal.returns-clause-calls
returns-clause-calls g c =
    keeps_by_free g.L.Peer.view c.args.slot.now c.save.new.slot tt c.in-Ok.ensures c.serialize.new.slot tt c.in-Ok-serialize.ensures.sent c.free.new.slot c.free.result c.free.ensures
