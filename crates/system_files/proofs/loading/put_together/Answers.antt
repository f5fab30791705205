use Rattle.system_files.proofs.SoundLemmas.{binds_parameters, has_binding_part}
use Rattle.system_files.proofs.loading.put_together.Goals as goal

pub refuse_binding-requires : goal.refuse_binding-requires
refuse_binding-requires c = has_binding_part c.args.outline.now c.args.shapes.now c.args.given.items c.in-Err.fault c.requires.parts c.in-Err.ensures.err

pub returns-in-Ok-folders_of-clause-bound : goal.returns-in-Ok-folders_of-clause-bound
returns-in-Ok-folders_of-clause-bound c =
    binds_parameters c.args.outline.now c.args.shapes.now c.in-Ok-assemble.system c.in-Ok.bound c.requires.shapes.len c.in-Ok-assemble.ensures.ok.is c.in-Ok.ensures.values

pub returns-in-Err-assemble-clause-err : goal.returns-in-Err-assemble-clause-err
returns-in-Err-assemble-clause-err c =
    c.refuse_together.ensures c.args.shapes.now c.args.given.items c.in-Ok.bound c.in-Ok.ensures.ok c.in-Err-assemble.ensures.err

pub returns-in-Err-clause-err : goal.returns-in-Err-clause-err
returns-in-Err-clause-err c = c.refuse_binding.ensures c.args.shapes.now c.args.given.items c.in-Err.ensures.err
