use Rattle.std.proofs.Common.{length, refl}
use Rattle.system_checkpoint.proofs.FirstLemmas.{plan_bad, plan_got, plan_short}
use Rattle.system_checkpoint.proofs.first.read_plan.Goals as goal

pub returns-in-Got : goal.returns-in-Got
returns-in-Got c = plan_got c.args.bytes.now c.in-Got.value _ c.in-Got.ensures

pub returns-in-NeedMore : goal.returns-in-NeedMore
returns-in-NeedMore c = (length c.args.bytes.now, refl, plan_short c.args.bytes.now c.in-NeedMore.ensures)

pub returns-in-Bad : goal.returns-in-Bad
returns-in-Bad c = (c.in-Bad.at, refl, plan_bad c.args.bytes.now c.in-Bad.at c.in-Bad.ensures)
