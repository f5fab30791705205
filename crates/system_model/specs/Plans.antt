-- Which plans a run goes by.
use Rattle.std.specs.Prelude.{◌<◌, ◌≤◌, ◌^◌}
use Rattle.system_model.specs.declared.plan.Plan.{Plan}

-- the plan is within its limits, and allows an instant at each point
pub record IsPlan (plan : Plan) : Type 0 where
  pub step_above : 0 < plan.step
  pub step_within : plan.step ≤ 2 ^ 62
  pub ordered : plan.start ≤ plan.stop
  pub stop_within : plan.stop ≤ 2 ^ 62
  pub limit_above : 0 < plan.limit
  pub limit_within : plan.limit ≤ 10000
