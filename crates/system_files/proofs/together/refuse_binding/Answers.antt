use Rattle.std.proofs.Common.{◌∙◌, refl, subst}
use Rattle.system_loading.specs.Binding.{TellsBinding}
use Rattle.system_files.specs.Steps.{AtParameter}
use Rattle.system_files.proofs.together.refuse_binding.Goals as goal

pub returns-in-Ok : goal.returns-in-Ok
returns-in-Ok c = λ shapes given told.
    AtParameter c.in-Broken.binding c.in-Broken.in_mapping c.in-Broken.rule c.in-Broken.place c.from_vec.result c.in-Ok.file
    (subst (TellsBinding c.args.outline.now shapes given) c.in-Broken.is told) c.in-Ok.ensures (c.from_vec.ensures ∙ c.new.ensures.items) refl
