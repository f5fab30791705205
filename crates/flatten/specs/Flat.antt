-- What a tree of systems is without its levels: components, ports and from where each input is fed (SSP 1.0, 5.3.2 and 5.3.3).
use Rattle.std.specs.Prelude.{◌≡◌, ◌≢◌, ◌↔◌, ℕ, List, length, Option, Some, IsSomeAnd, slice_get}
use Rattle.std.specs.Option.{option_map}
use Rattle.value_types.specs.Shape.{timing_at}
use Rattle.value_types.specs.declared.shape.ClockTiming.{ClockTiming}
use Rattle.value_types.specs.declared.shape.IntervalVariability.TheVariants.{Triggered}
use Rattle.value_types.specs.declared.shape.Variable.{Variable}
use Rattle.value_types.specs.declared.shape.Shape.{Shape}
use Rattle.doc_tables.specs.Tables.{IsFirstWith}
use Rattle.system_model.specs.declared.system.Component.{Component}
use Rattle.system_model.specs.declared.system.Feed.{Feed}
use Rattle.system_model.specs.declared.system.Port.{Port}
use Rattle.system_model.specs.declared.system.Role.{Role}
use Rattle.system_model.specs.declared.system.Role.TheVariants.{Input, Output, ClockInput, ClockOutput, TimeClock}
use Rattle.system_model.specs.declared.system.System.{System}
use Rattle.system_model.specs.Ports.{feed_of}
use Rattle.system_model.specs.Sound.{HasSoundPorts}
use Rattle.port_orders.specs.Outcome.{HasOrders}
use Rattle.ssd_tree.specs.declared.tree.ComponentPart.{ComponentPart}
use Rattle.ssd_tree.specs.declared.tree.SystemTree.{SystemTree}
use Rattle.flatten.specs.Points.{Point, OfComponent}
use Rattle.flatten.specs.Paths.{Feeds}

-- ---- components

-- the path of the i-th component's FMU
abbrev pub source_at : List ComponentPart → ℕ → Option (List ℕ)
source_at parts i = option_map (λ (c : ComponentPart). c.source) (slice_get parts i)

-- the i-th component: its full name, its shape, and as the number of its source that of the first component with this source
pub record IsComponentOf (parts : List ComponentPart) (shapes : List Shape) (i : ℕ)
    (c : Component) : Type 0 where
  pub part : ComponentPart
  pub at : slice_get parts i ≡ Some part
  pub name : c.name ≡ part.name
  pub source : IsFirstWith (source_at parts) part.source c.source.0
  pub shape : slice_get shapes i ≡ Some c.shape

pub record AreComponentsOf (parts : List ComponentPart) (shapes : List Shape)
    (components : List Component) : Type 0 where
  pub len : length components ≡ length parts
  pub each : (i : ℕ) (c : Component) → slice_get components i ≡ Some c →
      IsComponentOf parts shapes i c

-- ---- feeds

-- the variable of a port
abbrev pub point_of_port : Port → Point
point_of_port port = OfComponent port.component.0 port.reference

-- a port is fed from another, by these changes, exactly where the output of that feeds it along a path with these changes
abbrev pub HasFeeds : SystemTree → List Shape → List Port → Type 0
HasFeeds t shapes ports =
    (p : ℕ) (target : Port) (feed : Feed) → slice_get ports p ≡ Some target →
    (feed_of target.role ≡ Some feed) ↔
    IsSomeAnd (slice_get ports feed.from.0) (λ (source : Port).
    Feeds t shapes (point_of_port source) feed.changes (point_of_port target))

-- ---- the whole

-- its components are those of the tree, its ports their inputs and outputs with their Clocks and timings, and its feeds the paths of connections
pub record IsFlat (t : SystemTree) (shapes : List Shape) (system : System) : Type 0 where
  pub components : AreComponentsOf t.components shapes system.components
  pub ports : HasSoundPorts system
  pub feeds : HasFeeds t shapes system.ports

-- the same, with its orders
pub record Flattens (t : SystemTree) (shapes : List Shape) (system : System) : Type 0 where
  pub flat : IsFlat t shapes system
  pub orders : HasOrders system

-- an input that is no time-based Clock has this source
abbrev pub IsSourceWith : Shape → Variable → Option Feed → Role → Type 0
IsSourceWith shape x feed (Input fed) = fed ≡ feed
IsSourceWith shape x feed (ClockInput fed) = fed ≡ feed
IsSourceWith shape x feed Output = Unit {0}
IsSourceWith shape x feed ClockOutput = Unit {0}
IsSourceWith shape x feed (TimeClock timing) =
    IsSomeAnd (timing_at shape.clocks x.reference) (λ (clock : ClockTiming).
    clock.variability ≢ Triggered)
