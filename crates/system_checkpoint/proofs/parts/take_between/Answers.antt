use Rattle.std.proofs.Common.{subst}
use Rattle.exact_parts.specs.Field.{Field}
use Rattle.exact_parts.specs.Taking.{Takes}
use Rattle.system_checkpoint.proofs.parts.take_between.Goals as goal

pub returns : goal.returns
returns c = subst (λ spans. Takes (Field c.args.size spans) c.args.bytes.now c.take_number.result) c.between.ensures c.take_number.ensures
