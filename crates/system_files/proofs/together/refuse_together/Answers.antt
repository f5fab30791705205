use Rattle.std.proofs.Common.{ap, subst}
use Rattle.doc_tree.specs.declared.place.Place.{Place}
use Rattle.system_loading.specs.Faults.{TellsTogether}
use Rattle.system_files.specs.declared.loading.LoadError.TheVariants as end
use Rattle.system_files.specs.declared.named.FileFault.TheVariants.{Broken}
use Rattle.system_files.specs.Steps.{AtRule}
use Rattle.system_files.proofs.together.refuse_together.Goals as goal

pub returns-in-Ok-place : goal.returns-in-Ok-place
returns-in-Ok-place c = λ shapes given bound binds told.
    AtRule bound c.in-Broken.rule c.in-Broken.node c.in-Broken.ports c.in-Ok.file binds
    (subst (TellsTogether c.args.outline.now shapes) c.in-Broken.is told) c.in-Ok.ensures
    (ap (λ (p : Place). end.File c.in-Ok.file (Broken c.in-Broken.rule p c.in-Broken.ports)) c.in-Ok-place.ensures)
