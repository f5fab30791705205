use Rattle.std.proofs.Common.{ap, ◌∙◌}
use Rattle.std.specs.List.{list_all}
use Rattle.system_model.specs.declared.system.Component.{Component}
use Rattle.step_master.proofs.Keepable.{all_put, none_passes}
use Rattle.step_master.proofs.master.keeping_for.Goals as goal

pub returns-then-not-can_serialize : goal.returns-then-not-can_serialize
returns-then-not-can_serialize c = λ can.
    let all = c.can_serialize.ensures ∙ ap (list_all (λ (x : Component). x.shape.can_serialize_state)) c.as_slice.ensures ∙ all_put c.args.experiment.now.system.components can.serializes in
    absurd (let not_all = c.if-not-can_serialize.true in cc)

pub returns-in-Some : goal.returns-in-Some
returns-in-Some c = λ can. absurd (none_passes c.args.experiment.now.system c.args.experiment.now.plan can c.in-Some.field-0 c.in-Some.ensures.found)
