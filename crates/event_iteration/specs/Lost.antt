-- Values of sources that are lost on their way to inputs (SSP 1.0: connections with a linear transformation or a mapping).
use Rattle.std.specs.Prelude.{◌≡◌, ℕ, ℤ, Bool, false, List, [], Option, Some, None}
use Rattle.std.specs.List.{list_any, position, slice_get}
use Rattle.system_model.specs.declared.system.Feed.{Feed}
use Rattle.system_model.specs.declared.system.Port.{Port}
use Rattle.system_model.specs.declared.system.Role.{Role}
use Rattle.system_model.specs.Ports.{feed_of}
use Rattle.run_model.specs.Equations.{source_value}
use Rattle.event_iteration.specs.declared.lost.LostValue.{LostValue}

-- the least port of which this is so, and the value of its source
pub record IsFirstLost (is_lost : Port → Bool) (ports : List Port) (values : List (Option ℤ))
    (lost : LostValue) : Type 0 where
  pub first : position is_lost ports ≡ Some lost.port.0
  pub target : Port
  pub at : slice_get ports lost.port.0 ≡ Some target
  pub feed : Feed
  pub fed : feed_of target.role ≡ Some feed
  pub value : source_value feed values ≡ Some lost.value

-- it is found, and nothing where this is so of no port
abbrev pub FindsLost : (Port → Bool) → List Port → List (Option ℤ) → Option LostValue → Type 0
FindsLost is_lost ports values None = list_any is_lost ports ≡ false
FindsLost is_lost ports values (Some lost) = IsFirstLost is_lost ports values lost

-- what is lost on the way to the port at this place: the value of its source, where it has one
abbrev pub IsLostAt : List Port → ℕ → List (Option ℤ) → Option LostValue → Type 0
IsLostAt ports p values lost =
    (target : Port) (feed : Feed) (x : ℤ) → slice_get ports p ≡ Some target →
    feed_of target.role ≡ Some feed → source_value feed values ≡ Some x →
    lost ≡ Some (record { port = record { 0 = p }; value = x })
