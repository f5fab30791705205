-- The first connector of each point, and links between first connectors.
use Rattle.std.specs.Prelude.{◌≡◌, ◌↔◌, ℕ, ◌<◌, List, length, slice_get, slice_index_or, Option, Some, Contains}
use Rattle.std.specs.Ordering.{nat_cmp}
use Rattle.std.specs.BTreeMap.{BTreeMap, get}
use Rattle.connection_paths.specs.declared.point.Point.{Point}
use Rattle.connection_paths.specs.declared.point.Point.TheVariants.{Variable, OfSystem}
use Rattle.connection_paths.specs.declared.point.Connection.{Connection}
use Rattle.dependency_order.specs.Graph.{Needs}

-- for each connector the first of its point
pub record AreFirsts (points : List Point) (firsts : List ℕ) : Type 0 where
  pub same_length : length firsts ≡ length points
  pub is : (c : ℕ) (p : Point) → slice_get points c ≡ Some p →
      slice_get points (slice_index_or firsts c 0) ≡ Some p
  pub same : (c d : ℕ) (p : Point) → slice_get points c ≡ Some p → slice_get points d ≡ Some p →
      slice_index_or firsts c 0 ≡ slice_index_or firsts d 0

abbrev pub at : BTreeMap ℕ ℕ → ℕ → Option ℕ
at table v = get nat_cmp table v

-- so far, with a table of the points of one kind that have come
pub record IsTableOf (make : ℕ → Point) (points : List Point) (i : ℕ) (table : BTreeMap ℕ ℕ)
    (firsts : List ℕ) : Type 0 where
  pub stands : (v c : ℕ) → at table v ≡ Some c → slice_get points c ≡ Some (make v)
  pub told : (c v : ℕ) → c < i → slice_get points c ≡ Some (make v) →
      at table v ≡ Some (slice_index_or firsts c 0)

pub record ArePlaced (points : List Point) (i : ℕ) (variables systems : BTreeMap ℕ ℕ)
    (firsts : List ℕ) : Type 0 where
  pub len : length firsts ≡ i
  pub of_components : IsTableOf Variable points i variables firsts
  pub of_systems : IsTableOf OfSystem points i systems firsts

-- a link for each connection, between the first connectors of its ends
pub record Link (firsts : List ℕ) (connections : List Connection) (a b : ℕ) : Type 0 where
  pub connection : Connection
  pub is : Contains connections connection
  pub start : slice_index_or firsts connection.start 0 ≡ a
  pub end : slice_index_or firsts connection.end 0 ≡ b

abbrev pub AreLinks : List ℕ → List Connection → List (List ℕ) → Type 0
AreLinks firsts connections links = (a b : ℕ) → Needs links a b ↔ Link firsts connections a b
