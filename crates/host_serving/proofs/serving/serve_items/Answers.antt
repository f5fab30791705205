use Rattle.std.proofs.Common.{◌*◌, ◌+◌, length, take, refl}
use Rattle.host_serving.specs.Serving.{scene}
use Rattle.host_serving.proofs.ServingLemmas.{after_batch, broken_items, calls_in, lost_batch, put_rose, took_calls}
use Rattle.host_serving.proofs.serving.serve_items.Goals as goal

pub returns-in-Err : goal.returns-in-Err
returns-in-Err g c = λ input read takes.
    let count = length c.args.places.now in
    let batch = calls_in count (take (24 * (count + 1)) c.args.room.now) c.requires in
    broken_items _ _ batch.0 c.in-Err.end (took_calls _ _ c.args.room.now count batch.0 takes batch.1) (c.in-Err.ensures.answered batch.0 batch.1) refl

pub returns-in-Ok-put : goal.returns-in-Ok-put
returns-in-Ok-put g c = λ input read takes.
    let count = length c.args.places.now in
    let batch = calls_in count (take (24 * (count + 1)) c.args.room.now) c.requires in
    let old = scene input (g.O.Sink.view c.args.output.now) (g.M.Peer.view c.args.machine.now) in
    let new = scene read (g.O.Sink.view c.put.new.self) (g.M.Peer.view c.answer_items.new.machine) in
    after_batch old new batch.0 c.answer_items.new.places c.in-Ok.answered _ (took_calls old new c.args.room.now count batch.0 takes batch.1) c.in-Ok.ensures.within (c.in-Ok.ensures.answered batch.0 batch.1)
    c.put_batch_reply-length.ensures.batch c.in-Ok-put.ensures.noted

pub returns-in-Err-put : goal.returns-in-Err-put
returns-in-Err-put g c = λ input read takes.
    let count = length c.args.places.now in
    let batch = calls_in count (take (24 * (count + 1)) c.args.room.now) c.requires in
    let old = scene input (g.O.Sink.view c.args.output.now) (g.M.Peer.view c.args.machine.now) in
    let new = scene read (g.O.Sink.view c.put.new.self) (g.M.Peer.view c.answer_items.new.machine) in
    lost_batch old new batch.0 c.answer_items.new.places c.in-Ok.answered (took_calls old new c.args.room.now count batch.0 takes batch.1) c.in-Ok.ensures.within (c.in-Ok.ensures.answered batch.0 batch.1) (put_rose _ _ _ c.in-Err-put.ensures.noted.1)
