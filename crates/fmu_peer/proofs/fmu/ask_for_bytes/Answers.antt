use Rattle.fmi_calls.specs.declared.call.Call.TheVariants as C
use Rattle.fmu_peer.proofs.JudgedLemmas.{judged_bad, judged_followed, judged_good}
use Rattle.fmu_peer.proofs.fmu.ask_for_bytes.Goals as goal

pub returns-clause-ok : goal.returns-clause-ok
returns-clause-ok g c =
    let view = g.L.Peer.view in
    let asked = c.serialize-answer.ensures.asked in
    judged_good (view c.args.peer.now) (view c.serialize-answer.new.self) C.Serialize c.serialize-answer.result asked c.shape.result.now c.shape.ensures c.judged.result c.judged.ensures.ok

pub returns-clause-bytes : goal.returns-clause-bytes
returns-clause-bytes g c =
    let view = g.L.Peer.view in
    let asked = c.serialize-answer.ensures in
    judged_followed (view c.args.peer.now) (view c.serialize-answer.new.self) C.Serialize c.serialize-answer.result asked.asked c.shape.result.now c.shape.ensures c.serialize-answer.new.into.items asked.bytes c.judged.result c.judged.ensures.ok

pub returns-clause-err : goal.returns-clause-err
returns-clause-err g c =
    let view = g.L.Peer.view in
    let asked = c.serialize-answer.ensures.asked in
    judged_bad (view c.args.peer.now) (view c.serialize-answer.new.self) C.Serialize c.serialize-answer.result asked c.shape.result.now c.shape.ensures c.judged.result c.judged.ensures.err
