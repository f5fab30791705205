use Rattle.std.proofs.Common.{◌∙◌}
use Rattle.parallel_step.proofs.Bads.{any_bad}
use Rattle.parallel_step.proofs.answers.has_bad.Goals as goal

pub returns : goal.returns
returns g c = c.is_any_bad.ensures ∙ any_bad 0 c.args.slots.now
