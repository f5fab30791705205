use Rattle.std.proofs.Common.{[], refl, rules}
use Rattle.host_serving.specs.Serving.{OfMachine, scene}
use Rattle.host_serving.proofs.ServingLemmas.{answer_put, plain_answer, plain_whole}
use Rattle.host_serving.proofs.serving.serve_plain.Goals as goal

pub returns-in-Ok : goal.returns-in-Ok
returns-in-Ok g c = λ before read takes.
    let old = scene before (g.O.Sink.view c.args.output.now) (g.M.Peer.view c.args.machine.now) in
    let new = scene read (g.O.Sink.view c.put_answer.new.output) (g.M.Peer.view c.call.new.self) in
    answer_put old new _ _ (plain_answer old new c.args.call.now c.in-Ok.reply c.requires.plain takes c.requires.permitted c.in-Ok.ensures) c.put_answer.ensures

pub returns-in-Err : goal.returns-in-Err
returns-in-Err g c = λ before read takes.
    ((λ is. cc), OfMachine c.args.call.now [] (plain_whole before read c.args.call.now c.requires.plain takes) c.requires.permitted c.in-Err.ensures.cause.rose refl)
