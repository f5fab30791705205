use Rattle.std.proofs.Common.{subst}
use Rattle.std.specs.Prelude.{Bool}
use Rattle.exact_parts.specs.Taking.{Takes}
use Rattle.system_checkpoint.specs.Whole.{ArmingIf}
use Rattle.system_checkpoint.proofs.lists.take_arming_of.Goals as goal

pub returns : goal.returns
returns c = subst (λ (b : Bool). Takes (ArmingIf c.args.low c.args.high b) c.args.bytes.now c.take_arming_if.result) c.may_be_armed.ensures c.take_arming_if.ensures
