-- How many bytes hold each text of a trace of a system.
use Rattle.std.specs.Prelude.{ℕ, ◌+◌, ◌*◌, ◌^◌, ◌<◌, ◌≤◌, ℤ, FitsSigned, List, length, All, sum_by, Option, IfSome}
use Rattle.std.specs.Int.{w128}
use Rattle.system_model.specs.declared.system.Component.{Component}
use Rattle.system_model.specs.declared.system.Port.{Port}
use Rattle.system_model.specs.declared.system.System.{System}
use Rattle.system_model.specs.declared.plan.EndKind.{EndKind}
use Rattle.system_model.specs.Text.{component_name, header_text, instant_text, end_text}

-- for a line of a port: in a header its number, type and names, whose bytes take three each where they are escaped, and in an instant its number and value
abbrev pub port_room : List Component → Port → ℕ
port_room components port =
    3 * (length (component_name components port.component.0) + length port.name) + 64

-- for a line without names, and one of each port
abbrev pub room_of : System → ℕ
room_of system = 128 + sum_by (port_room system.components) system.ports

-- a `u64`
abbrev pub IsCount : ℕ → Type 0
IsCount n = n < 2 ^ 64

-- what a slice of `Option<i128>` holds
abbrev pub AreValues : List (Option ℤ) → Type 0
AreValues values = All (λ (value : Option ℤ). IfSome value (FitsSigned w128)) values

-- each text fits
pub record HoldsEach (system : System) (room : ℕ) : Type 0 where
  pub header : (resolution start stop : ℕ) → IsCount resolution → IsCount start → IsCount stop →
      length (header_text system resolution start stop) ≤ room
  pub instant : (t n : ℕ) (values : List (Option ℤ)) → IsCount t → IsCount n → AreValues values →
      length values ≤ length system.ports → length (instant_text t n values) ≤ room
  pub end : (kind : EndKind) (t : ℕ) → IsCount t → length (end_text kind t) ≤ room
