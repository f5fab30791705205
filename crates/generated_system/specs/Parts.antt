-- A system that is made component by component: its parts so far.
use Rattle.std.specs.Prelude.{◌≡◌, ℕ, ◌-◌, pos, List, [], ◌∷◌, ◌++◌, length, map, Option, Some, None}
use Rattle.std.specs.List.{range_with_len, slice_get}
use Rattle.std.specs.Option.{option_map}
use Rattle.sim_base.specs.declared.numbers.PortId.{PortId}
use Rattle.value_types.specs.declared.values.PortType.TheVariants.{Int32}
use Rattle.system_model.specs.declared.system.Feed.{Feed}
use Rattle.generated_system.specs.declared.drawn.Drawn.{Drawn}
use Rattle.generated_system.specs.declared.parts.Parts.{Parts}
use Rattle.generated_system.specs.Draws.{drawn_for}
use Rattle.generated_system.specs.Generated.{component_of, generated_bound, generated_system, output_of, ports_of}

-- the feed from the output of a component, where there is such a component
abbrev pub fed_by : List PortId → Option ℕ → Option Feed
fed_by outputs None = None
fed_by outputs (Some j) = option_map (λ (p : PortId). record { from = p; changes = [] }) (slice_get outputs j)

-- one more component comes after the others, by what is drawn for it
pub record Adds (drawn : Drawn) (old new : Parts) : Type 0 where
  pub components : new.components.items ≡
      old.components.items ++ component_of (length old.components.items) drawn.machine ∷ []
  pub ports : new.ports.items ≡
      old.ports.items ++
      ports_of (length old.components.items) drawn.machine (fed_by old.outputs.items drawn.feeder)
  pub outputs : new.outputs.items ≡
      old.outputs.items ++ record { 0 = length new.ports.items - 1 } ∷ []
  pub values : new.values.items ≡
      old.values.items ++
      (record { kind = Int32; reference = 1; value = pos drawn.parameter } ∷ []) ∷ []

-- the parts are those of the first k components that a seed gives
pub record HasParts (seed k : ℕ) (parts : Parts) : Type 0 where
  pub components : parts.components.items ≡ (generated_system seed k).components
  pub ports : parts.ports.items ≡ (generated_system seed k).ports
  pub outputs : parts.outputs.items ≡ map (output_of (drawn_for seed)) (range_with_len 0 k)
  pub values : parts.values.items ≡ (generated_bound seed k).components
