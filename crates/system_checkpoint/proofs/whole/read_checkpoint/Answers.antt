use Rattle.std.proofs.Common.{sym, subst, ap, ◌∙◌}
use Rattle.system_checkpoint.specs.Whole.{Answers, told}
use Rattle.system_checkpoint.proofs.WholeLemmas.{answer_of}
use Rattle.system_checkpoint.proofs.whole.read_checkpoint.Goals as goal

pub returns-in-Ok : goal.returns-in-Ok
returns-in-Ok c =
    subst (λ r. Answers c.args.system.now c.args.header.now c.args.bytes.now r) (sym (c.told.ensures ∙ ap (told c.in-Ok.taken) c.len.ensures))
    (answer_of c.args.system.now c.args.header.now c.args.bytes.now c.in-Ok.taken c.in-Ok.ensures)
