-- Which plans a run goes by.
use Rattle.std.specs.Prelude.{◌≡◌, All}
use Rattle.system_model.specs.declared.plan.Plan.{Plan}
use Rattle.system_model.specs.declared.system.Component.{Component}
use Rattle.system_model.specs.declared.system.System.{System}

-- the FMUs count as the plan does: a second has as many counts to each
abbrev pub CountsBy : System → Plan → Type 0
CountsBy system plan =
    All (λ (c : Component). c.shape.resolution ≡ plan.resolution) system.components
