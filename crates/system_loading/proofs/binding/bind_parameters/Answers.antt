use Rattle.std.proofs.Common.{◌∙◌}
use Rattle.system_loading.specs.Binding.{sets_of}
use Rattle.system_loading.proofs.BindingLemmas.{bound_alone, told_alone}
use Rattle.system_loading.proofs.binding.bind_parameters.Goals as goal

pub returns-in-Ok-bind-clause-ok : goal.returns-in-Ok-bind-clause-ok
returns-in-Ok-bind-clause-ok c =
    bound_alone c.args.outline.now c.args.shapes.now c.args.given.items c.deref.result.now c.in-Ok-bind.bound (c.deref.ensures.value ∙ c.in-Ok.ensures.sets) c.in-Ok-bind.ensures.ok
    c.in-Ok-bind.ensures.fitting (λ a b. c.binding_laws.ensures.values c.args.outline.now.systems c.args.shapes.now (sets_of c.args.given.items) a b)

pub returns-in-Err-At-clause-err : goal.returns-in-Err-At-clause-err
returns-in-Err-At-clause-err c =
    told_alone c.args.outline.now c.args.shapes.now c.args.given.items c.deref.result.now c.deref-in-Err-At.result.now c.in-Err-At.field-0 c.in-Err-At.file c.in-Err-At.node c.in-Err-At.rule
    c.in-Err-At.field-0-3 c.told_at.result (c.deref.ensures.value ∙ c.in-Ok.ensures.sets) (c.deref-in-Err-At.ensures.value ∙ c.in-Ok.ensures.documents) c.in-Err-At.field-0-is c.in-Err-At.ensures.err c.told_at.ensures
