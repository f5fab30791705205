-- Components that built-in machines can be (FMI 3.0, 2.4: modelIdentifier).
use Rattle.std.specs.Prelude.{◌≡◌, true, []}
use Rattle.bench_fmus.specs.Models.{is_model}
use Rattle.system_model.specs.declared.system.Component.{Component}

-- one of the built-in machines has its name, it has no Clocks, and 1000 counts in a second
pub record SuitsBuiltIns (c : Component) : Type 0 where
  pub known : is_model c.shape.identifier ≡ true
  pub unclocked : c.shape.clocks ≡ []
  pub counts : c.shape.resolution ≡ 1000
