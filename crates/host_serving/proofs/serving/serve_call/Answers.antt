use Rattle.std.proofs.Common.{refl, rules, inl, subst, sym}
use Rattle.fmi_calls.specs.Permission.{Permitted}
use Rattle.fmi_calls.specs.declared.call.Call.{Call}
use Rattle.host_serving.specs.Frames.{TakesCall}
use Rattle.host_serving.proofs.ServingLemmas.{said_no}
use Rattle.host_serving.proofs.serving.serve_call.Goals as goal

pub returns-then-not-permitted : goal.returns-then-not-permitted
returns-then-not-permitted g c = λ before takes.
    let fmu = g.M.Peer.view c.args.machine.now in
    let cannot : Permitted fmu.fixed.shape fmu.phase c.args.call → ⊥ = said_no c.permitted.result fmu.fixed.shape c.shape.result.now fmu.phase c.phase.result.now c.args.call c.permitted.ensures c.if-not-permitted.true c.shape.ensures c.phase.ensures.phase in
    ((λ is. cc), inl (takes, cannot, record { output = refl; machine = refl }))

pub returns-in-Serialize : goal.returns-in-Serialize
returns-in-Serialize g c = λ before takes.
    c.serve_serialize.ensures before (g.I.Source.view c.args.input.now) (subst (TakesCall before (g.I.Source.view c.args.input.now)) c.in-Serialize.is takes)

pub returns-in-Deserialize : goal.returns-in-Deserialize
returns-in-Deserialize g c = λ before takes.
    c.serve_deserialize.ensures before (subst (TakesCall before (g.I.Source.view c.args.input.now)) c.in-Deserialize.is takes)

pub returns-in_default : goal.returns-in_default
returns-in_default g c = λ before takes. c.serve_plain.ensures before (g.I.Source.view c.args.input.now) takes
