use Rattle.std.proofs.Common.{[], refl, subst, sym}
use Rattle.fmi_calls.specs.declared.call.Call.TheVariants as C
use Rattle.fmu_peer.specs.View.{IsFollowedBy}
use Rattle.host_serving.specs.Serving.{OfMachine, scene}
use Rattle.host_serving.proofs.ServingLemmas.{answer_put, plain_whole}
use Rattle.host_serving.proofs.FrameLemmas.{takes_none}
use Rattle.host_serving.proofs.serving.serve_serialize.Goals as goal

pub returns-in_default : goal.returns-in_default
returns-in_default g c = λ before read takes. ((λ is. cc), record { output = refl; machine = refl })

pub returns-in-Ok-serialize : goal.returns-in-Ok-serialize
returns-in-Ok-serialize g c = λ before read takes.
    let old = scene before (g.O.Sink.view c.args.output.now) (g.M.Peer.view c.args.machine.now) in
    let new = scene read (g.O.Sink.view c.put_answer.new.output) (g.M.Peer.view c.serialize.new.self) in
    answer_put old new (record { call = C.Serialize; taken = []; reply = c.in-Ok-serialize.reply; given = c.as_slice.result.now }) _
    (record { read = record { mid = read; frame = takes; follow = takes_none read; all = refl }; permitted = c.requires; asked = c.in-Ok-serialize.ensures.asked; given = subst (IsFollowedBy old.machine c.in-Ok-serialize.reply) (sym c.as_slice.ensures.value) c.in-Ok-serialize.ensures.bytes })
    c.put_answer.ensures

pub returns : goal.returns
returns g c = λ before read takes.
    ((λ is. cc), OfMachine C.Serialize [] (record { mid = read; frame = takes; follow = takes_none read; all = refl }) c.requires c.in-Err.ensures.asked.cause.rose refl)
