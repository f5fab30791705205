use Rattle.host_serving.proofs.reading.next_batch.Goals as goal

pub returns-in-None : goal.returns-in-None
returns-in-None g c = λ before takes end. c.no_batch.ensures before (g.I.Source.view c.args.input.now) c.args.room.now takes end
