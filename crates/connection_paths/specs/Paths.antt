-- Paths of connections (SSP 1.0, 5.3.3: connections).
use Rattle.std.specs.Prelude.{◌≡◌, ℕ, ◌<◌, List, slice_get, Option, Some, None, Contains}
use Rattle.connection_paths.specs.declared.point.Point.{Point}
use Rattle.connection_paths.specs.declared.point.Point.TheVariants.{Variable, OfSystem}
use Rattle.connection_paths.specs.declared.point.Connection.{Connection}
use Rattle.dependency_order.specs.Paths.{Reaches}

-- both ends are among so many connectors
abbrev pub IsWithin : ℕ → Connection → Type 0
IsWithin count connection = (connection.start < count) × (connection.end < count)

-- a connection leads from a connector of the one point to a connector of the other
pub record Joins (points : List Point) (connections : List Connection) (p q : Point) : Type 0 where
  pub connection : Connection
  pub is : Contains connections connection
  pub start : slice_get points connection.start ≡ Some p
  pub end : slice_get points connection.end ≡ Some q

abbrev pub IsOfSystem : Point → Type 0
IsOfSystem (Variable v) = ⊥
IsOfSystem (OfSystem x) = Unit {0}

-- a path of connections leads from the one to the other through connectors of systems only
abbrev pub Feeds : List Point → List Connection → Point → Point → Type 0
Feeds points connections p q = Reaches (Joins points connections) IsOfSystem p q

-- one of these connectors stands for the point
abbrev pub IsOneOf : List Point → List ℕ → Point → Type 0
IsOneOf points connectors p = (c : ℕ) × Contains connectors c × (slice_get points c ≡ Some p)

-- what is found for a point: a connector of one of the starts that feed it, and nothing where none does
abbrev pub FindsSource : List Point → List Connection → List ℕ → Point → Option ℕ → Type 0
FindsSource points connections starts x None =
    (p : Point) → IsOneOf points starts p → Feeds points connections p x → ⊥
FindsSource points connections starts x (Some c) =
    (p : Point) × (slice_get points c ≡ Some p) × IsOneOf points starts p ×
    Feeds points connections p x
