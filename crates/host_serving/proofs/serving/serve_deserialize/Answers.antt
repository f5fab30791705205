use Rattle.std.proofs.Common.{ℕ, List, Ok, length, refl, ap, sym, ◌∙◌, subst}
use Rattle.fmu_peer.specs.View.{AskedWith, IsDeserialize}
use Rattle.host_serving.specs.Serving.{OfMachine, scene}
use Rattle.host_serving.proofs.ServingLemmas.{answer_put, state_answer, state_failed, state_short, state_whole}
use Rattle.host_serving.proofs.serving.serve_deserialize.Goals as goal

pub returns-in-Short : goal.returns-in-Short
returns-in-Short g c = λ before takes.
    state_short _ _ (g.I.Source.view c.args.input.now) c.args.call.now c.args.length c.in-Short.count c.requires.kind takes c.in-Short.ensures c.requires.permitted (record { output = refl; machine = refl })

pub returns-in-Failed : goal.returns-in-Failed
returns-in-Failed g c = λ before takes. state_failed _ _ (g.I.Source.view c.args.input.now) c.args.call.now takes c.in-Failed.ensures (record { output = refl; machine = refl })

pub returns-in-Memory : goal.returns-in-Memory
returns-in-Memory g c = λ before takes. ((λ is. cc), record { output = refl; machine = refl })

pub deserialize-requires-clause-length : goal.deserialize-requires-clause-length
deserialize-requires-clause-length g c = subst (IsDeserialize c.args.call.now) (sym (ap length c.as_slice.ensures.value ∙ c.in-Came.ensures.1)) c.requires.kind

pub returns-in-Ok : goal.returns-in-Ok
returns-in-Ok g c = λ before takes.
    let old = scene before (g.O.Sink.view c.args.output.now) (g.M.Peer.view c.args.machine.now) in
    let new = scene (g.I.Source.view c.next_state.new.input) (g.O.Sink.view c.put_answer.new.output) (g.M.Peer.view c.deserialize.new.self) in
    answer_put old new _ _
    (state_answer old new (g.I.Source.view c.args.input.now) c.args.call.now c.args.length c.in-Came.state.items c.in-Ok.reply c.requires.kind takes c.in-Came.ensures.0 c.in-Came.ensures.1 c.requires.permitted
    (subst (λ (bytes : List ℕ). AskedWith old.machine c.args.call.now bytes (Ok c.in-Ok.reply) new.machine) c.as_slice.ensures.value c.in-Ok.ensures)) c.put_answer.ensures

pub returns : goal.returns
returns g c = λ before takes.
    ((λ is. cc), OfMachine c.args.call.now _ (state_whole before (g.I.Source.view c.args.input.now) _ c.args.call.now c.args.length _ c.requires.kind takes c.in-Came.ensures.0 c.in-Came.ensures.1) c.requires.permitted c.in-Err.ensures.cause.rose refl)
