use Rattle.std.proofs.Common.{subst}
use Rattle.std.specs.Prelude.{Bool}
use Rattle.exact_parts.specs.Taking.{Takes}
use Rattle.system_checkpoint.specs.Whole.{TimesIf}
use Rattle.system_checkpoint.proofs.lists.take_times_of.Goals as goal

pub returns : goal.returns
returns c = subst (λ (b : Bool). Takes (TimesIf b) c.args.bytes.now c.take_times_if.result) c.is_asked.ensures c.take_times_if.ensures
