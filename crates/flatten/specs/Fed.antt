-- What feeds the input that a connector names, by the tables of a tree: the numbers of variables, and of their ports.
use Rattle.std.specs.Prelude.{◌≡◌, ℕ, List, Option, Some, None, IsSomeAnd, slice_get}
use Rattle.sim_base.specs.declared.numbers.PortId.{PortId}
use Rattle.value_types.specs.declared.shape.Causality.TheVariants.{Input}
use Rattle.value_types.specs.declared.shape.Variable.{Variable}
use Rattle.connection_paths.specs.declared.point.Point as paths
use Rattle.connection_paths.specs.declared.point.Point.TheVariants.{Variable as Numbered, OfSystem}
use Rattle.flatten.specs.declared.connectors.FlatTree.{FlatTree}
use Rattle.ssd_tree.specs.declared.tree.Connection.{Connection}
use Rattle.system_model.specs.declared.system.Feed.{Feed}
use Rattle.flatten.specs.Marks.{IsOutputAt}
use Rattle.flatten.specs.Paths.{LeadsBy, changes_along}
use Rattle.flatten.specs.Points.{Point, point_of, variable_of}

-- the number of a point that isn't a System's
abbrev pub number_in : paths.Point → Option ℕ
number_in (Numbered n) = Some n
number_in (OfSystem c) = None

-- the connector names an input, with this number
abbrev pub IsInputWith : FlatTree → ℕ → ℕ → Type 0
IsInputWith f c n =
    (slice_get f.points.items c ≡ Some (Numbered n)) ×
    IsSomeAnd (variable_of f.tree.now f.shapes.now c) (λ (x : Variable). x.causality ≡ Input)

-- the connector names a variable with this port
abbrev pub HasPort : FlatTree → List (Option PortId) → ℕ → PortId → Type 0
HasPort f numbers c port =
    (n : ℕ) × (slice_get f.points.items c ≡ Some (Numbered n)) ×
    (slice_get numbers n ≡ Some (Some port))

-- the point of the connector is fed so: from the port of an output, along a path with these changes
pub record FeedsFrom (f : FlatTree) (numbers : List (Option PortId)) (connector : ℕ)
    (feed : Feed) : Type 0 where
  pub source : ℕ
  pub from : Point
  pub to : Point
  pub path : List Connection
  pub output : IsOutputAt f.tree.now f.shapes.now source
  pub port : HasPort f numbers source feed.from
  pub begins : point_of f.tree.now f.shapes.now source ≡ Some from
  pub ends : point_of f.tree.now f.shapes.now connector ≡ Some to
  pub leads : LeadsBy f.tree.now f.shapes.now from path to
  pub makes : feed.changes ≡ changes_along path

-- what feeds the point of the connector, where an output does
abbrev pub FindsFeed : FlatTree → List (Option PortId) → ℕ → Option Feed → Type 0
FindsFeed f numbers connector None = (feed : Feed) → FeedsFrom f numbers connector feed → ⊥
FindsFeed f numbers connector (Some feed) = FeedsFrom f numbers connector feed
