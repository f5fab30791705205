use Rattle.slot_calls.proofs.StatesAsBytes.{restores_calls, restores_so, restores_unrestored, restores_untaken}
use Rattle.slot_calls.proofs.keeping.restore.Goals as goal

pub returns-in-Err-clause-calls : goal.returns-in-Err-clause-calls
returns-in-Err-clause-calls g c = restores_untaken g.L.Peer.view c.args.point c.args.stop c.args.state.now c.args.slot.now c.take_in.new.slot c.in-Err.why c.in-Err.ensures

pub returns-in-Err-go_back-clause-calls : goal.returns-in-Err-go_back-clause-calls
returns-in-Err-go_back-clause-calls g c =
    (restores_unrestored g.L.Peer.view c.args.point c.args.stop c.args.state.now c.args.slot.now c.take_in.new.slot tt c.in-Ok.ensures c.go_back.new.slot c.in-Err-go_back.why c.in-Err-go_back.ensures).0

pub returns-in-Err-go_back-clause-restores : goal.returns-in-Err-go_back-clause-restores
returns-in-Err-go_back-clause-restores g c =
    (restores_unrestored g.L.Peer.view c.args.point c.args.stop c.args.state.now c.args.slot.now c.take_in.new.slot tt c.in-Ok.ensures c.go_back.new.slot c.in-Err-go_back.why c.in-Err-go_back.ensures).1

pub returns-clause-calls : goal.returns-clause-calls
returns-clause-calls g c =
    restores_calls g.L.Peer.view c.args.point c.args.stop c.args.state.now c.args.slot.now c.take_in.new.slot tt c.in-Ok.ensures c.go_back.new.slot tt c.in-Ok-go_back.ensures c.free.new.slot c.free.result c.free.ensures

pub returns-clause-restores : goal.returns-clause-restores
returns-clause-restores g c =
    restores_so g.L.Peer.view c.args.point c.args.stop c.args.state.now c.args.slot.now c.take_in.new.slot tt c.in-Ok.ensures c.go_back.new.slot tt c.in-Ok-go_back.ensures c.free.new.slot c.free.result c.free.ensures
