-- The way of a path back from where it ends, connection by connection.
use Rattle.std.specs.Prelude.{◌≡◌, ◌↔◌, ℕ, List, [], ◌∷◌, length, Option, Some, None, slice_get, option_and_then}
use Rattle.value_types.specs.declared.shape.Shape.{Shape}
use Rattle.parameter_values.specs.declared.change.Change.{Change}
use Rattle.connection_paths.specs.declared.point.Point as paths
use Rattle.ssd_tree.specs.declared.tree.Connection.{Connection}
use Rattle.ssd_tree.specs.declared.tree.SystemTree.{SystemTree}
use Rattle.flatten.specs.declared.connectors.FlatTree.{FlatTree}
use Rattle.flatten.specs.declared.feeds.Way.{Way}
use Rattle.flatten.specs.Broken.{number_of}
use Rattle.flatten.specs.Marks.{IsOutputAt}
use Rattle.flatten.specs.Points.{Point, IsOfSystem, point_of}

-- the change of the i-th connection
abbrev pub change_at : SystemTree → ℕ → Option Change
change_at t i = option_and_then (λ (k : Connection). k.change) (slice_get t.connections i)

-- the i-th connection ends at a point of this number
abbrev pub EndsAtNumber : FlatTree → ℕ → ℕ → Type 0
EndsAtNumber f i n =
    (k : Connection) × (slice_get f.tree.now.connections i ≡ Some k) ×
    ((p : paths.Point) × (slice_get f.points.items k.end ≡ Some p) ×
    (number_of (length f.variables.all.items) p ≡ n))

-- by its number each point finds the connection that ends there
abbrev pub AreLast : FlatTree → (ℕ → Option ℕ) → Type 0
AreLast f last = (n i : ℕ) → (last n ≡ Some i) ↔ EndsAtNumber f i n

-- the i-th connection leads from the one point to the other
pub record JoinsAt (t : SystemTree) (shapes : List Shape) (i : ℕ) (p q : Point) : Type 0 where
  pub connection : Connection
  pub is : slice_get t.connections i ≡ Some connection
  pub start : point_of t shapes connection.start ≡ Some p
  pub end : point_of t shapes connection.end ≡ Some q

-- these connections, the last first, lead from the one point to the other, through connectors of systems only
abbrev pub LeadsBack : SystemTree → List Shape → Point → List ℕ → Point → Type 0
LeadsBack t shapes p [] q = ⊥
LeadsBack t shapes p (i ∷ []) q = JoinsAt t shapes i p q
LeadsBack t shapes p (i ∷ (j ∷ js)) q =
    (s : Point) × JoinsAt t shapes i s q × IsOfSystem t s × LeadsBack t shapes p (j ∷ js) s

-- these connections, the last first, lead from the output that the one connector names to the other
pub record IsWay (f : FlatTree) (connector source : ℕ) (back : List ℕ) : Type 0 where
  pub from : Point
  pub to : Point
  pub output : IsOutputAt f.tree.now f.shapes.now source
  pub begins : point_of f.tree.now f.shapes.now source ≡ Some from
  pub ends : point_of f.tree.now f.shapes.now connector ≡ Some to
  pub leads : LeadsBack f.tree.now f.shapes.now from back to

-- the way to a connector, where there is one
abbrev pub FindsWay : FlatTree → ℕ → Option Way → Type 0
FindsWay f connector None = (source : ℕ) (back : List ℕ) → IsWay f connector source back → ⊥
FindsWay f connector (Some way) = IsWay f connector way.source way.back.items
