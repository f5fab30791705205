-- What the values of an instant have to agree with: that an input has what its path makes of its source's value (SSP 1.0: connections), where it is present (FMI 3.0, 2.2.8: clocked variables).
use Rattle.std.specs.Prelude.{◌≡◌, ◌≢◌, ℕ, ℤ, true, List, Option, Some, slice_get}
use Rattle.system_model.specs.Carried.{comes_to}
use Rattle.system_model.specs.declared.system.Port.{Port}
use Rattle.system_model.specs.declared.system.System.{System}
use Rattle.system_model.specs.Values.{value, is_present}

-- an input is present and is fed, and it hasn't what comes to it from its source, or has a value where nothing comes
pub record DiffersFromSource (system : System) (values : List (Option ℤ)) (p : ℕ) : Type 0 where
  pub port : Port
  pub comes : Option ℤ
  pub at : slice_get system.ports p ≡ Some port
  pub fed : comes_to port.role port.kind values ≡ Some comes
  pub present : is_present port values ≡ true
  pub differs : value values p ≢ comes
