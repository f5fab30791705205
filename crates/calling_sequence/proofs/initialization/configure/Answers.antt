use Rattle.std.proofs.Common.{List, refl, subst, sym}
use Rattle.std.specs.List.{AllZip}
use Rattle.value_types.specs.declared.shape.Shape.{Shape}
use Rattle.system_model.specs.Bounds.{AreParameterValues}
use Rattle.slot_calls.specs.Stage.{nothing}
use Rattle.calling_sequence.specs.Calls.{binding}
use Rattle.calling_sequence.specs.Course.{Binds, Configured, Made}
use Rattle.calling_sequence.specs.Place.{IsMade}
use Rattle.calling_sequence.proofs.Bindings.{binds_shapes}
use Rattle.calling_sequence.proofs.Stages.{by_stage, still}
use Rattle.calling_sequence.proofs.initialization.configure.Goals as goal

pub set_parameters-requires-clause-bound : goal.set_parameters-requires-clause-bound
set_parameters-requires-clause-bound g c κs within =
    let e = c.args.experiment.now in
    subst (λ (ss : List Shape). AllZip AreParameterValues ss e.bound.components) (sym c.requires.shapes_are) (binds_shapes e.system e.bound c.requires.may.binds)

pub returns-clause-ready : goal.returns-clause-ready
returns-clause-ready g c =
    let s = c.set_parameters.ensures in
    still g.L.Peer.view c.args.experiment.now (λ stop step. IsMade) c.args.slots.now _ c.requires (λ stop step. IsMade) c.set_parameters.result s.sets.log s.sets.told s.live s.made

pub returns-clause-goes : goal.returns-clause-goes
returns-clause-goes g c count =
    by_stage c.args.experiment.now Made (λ x. Configured) (λ x. refl) (λ x extent. tt) _ _ count c.requires.shapes_are (λ ss. binding c.args.experiment.now.bound) nothing refl (λ x log done is. Binds _ log) c.set_parameters.result c.set_parameters.ensures.sets
