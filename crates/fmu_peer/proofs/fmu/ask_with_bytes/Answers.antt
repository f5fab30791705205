use Rattle.fmu_peer.proofs.JudgedLemmas.{judged_bad_with, judged_good_with}
use Rattle.fmu_peer.proofs.fmu.ask_with_bytes.Goals as goal

pub returns-clause-ok : goal.returns-clause-ok
returns-clause-ok g c =
    let view = g.L.Peer.view in
    judged_good_with (view c.args.peer.now) (view c.deserialize-answer.new.self) c.args.call.now c.args.bytes.now c.deserialize-answer.result c.deserialize-answer.ensures c.shape.result.now c.shape.ensures c.judged.result c.judged.ensures.ok

pub returns-clause-err : goal.returns-clause-err
returns-clause-err g c =
    let view = g.L.Peer.view in
    judged_bad_with (view c.args.peer.now) (view c.deserialize-answer.new.self) c.args.call.now c.args.bytes.now c.deserialize-answer.result c.deserialize-answer.ensures c.shape.result.now c.shape.ensures c.judged.result c.judged.ensures.err
