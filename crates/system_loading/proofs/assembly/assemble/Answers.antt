use Rattle.system_loading.proofs.AssemblyLemmas.{refusal_told, makes_alone}
use Rattle.system_loading.proofs.assembly.assemble.Goals as goal

pub returns-in-Ok-clause-ok : goal.returns-in-Ok-clause-ok
returns-in-Ok-clause-ok c =
    makes_alone c.args.outline.now c.args.shapes.now c.in-Ok.system c.in-Ok.ensures.fitting c.in-Ok.ensures.found c.in-Ok.ensures.only

pub returns-in-Err-At-clause-err : goal.returns-in-Err-At-clause-err
returns-in-Err-At-clause-err c =
    refusal_told c.args.outline.now c.args.shapes.now c.in-Err-At.field-0 c.in-Err-At.field-0-0 c.in-Err-At.node c.in-Err-At.rule c.in-Err-At.ports
    c.in-Err-At.field-0-is c.in-Err-At.ensures.fault c.in-Err-At.ensures.exact c.in-Err-At.ensures.only
