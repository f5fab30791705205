use Rattle.system_checkpoint.proofs.PlanLemmas.{begins_with_plan, breaks_at_one, counts_seconds, lacks_at_one, one_plan}
use Rattle.system_checkpoint.proofs.plans.plan_laws.Goals as goal

pub returns : goal.returns
returns c = record { one = one_plan; counts = counts_seconds; begins = begins_with_plan; lacks = lacks_at_one; breaks = breaks_at_one }
