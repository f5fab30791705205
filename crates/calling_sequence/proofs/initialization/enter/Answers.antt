use Rattle.std.proofs.Common.{refl}
use Rattle.fmi_calls.specs.declared.call.Call.TheVariants as C
use Rattle.slot_calls.specs.Stage.{nothing, to_each}
use Rattle.calling_sequence.specs.Course.{Configured, Entered, Enters}
use Rattle.calling_sequence.specs.Place.{IsInitializing, IsMade}
use Rattle.calling_sequence.proofs.Phases.{enter_leads}
use Rattle.calling_sequence.proofs.Stages.{by_stage, still_each}
use Rattle.calling_sequence.proofs.initialization.enter.Goals as goal

pub returns-clause-ready : goal.returns-clause-ready
returns-clause-ready g c =
    let plan = c.args.experiment.now.plan in
    still_each g.L.Peer.view c.args.experiment.now (λ stop step. IsMade) c.args.slots.now _ c.requires (λ stop step. IsInitializing plan.start stop) (λ shape. C.EnterInitialization plan.start plan.stop) (enter_leads plan.start plan.stop) nothing c.each.result c.each.ensures.stage c.each.ensures.live

pub returns-clause-goes : goal.returns-clause-goes
returns-clause-goes g c count =
    let plan = c.args.experiment.now.plan in
    by_stage c.args.experiment.now Configured (λ x. Entered) (λ x. refl) (λ x extent. tt) _ _ count c.requires.shapes_are (λ ss. to_each (λ shape. C.EnterInitialization plan.start plan.stop) ss) nothing refl (λ x log done is. Enters _ log) c.each.result c.each.ensures.stage
