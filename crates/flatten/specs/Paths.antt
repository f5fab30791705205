-- Paths of connections through the connectors of systems (SSP 1.0, 5.3.3: Connections).
use Rattle.std.specs.Prelude.{◌≡◌, ◌⊎◌, ℕ, List, [], ◌∷◌, map, filter, not, is_some, Some, Contains}
use Rattle.std.specs.List.{filter_map}
use Rattle.value_types.specs.declared.shape.Causality.TheVariants.{Input, Output}
use Rattle.value_types.specs.declared.shape.Variable.{Variable}
use Rattle.value_types.specs.declared.shape.Shape.{Shape}
use Rattle.dependency_order.specs.Paths.{Reaches}
use Rattle.parameter_values.specs.declared.change.Change.{Change}
use Rattle.ssd_tree.specs.declared.tree.Connection.{Connection}
use Rattle.ssd_tree.specs.declared.tree.SystemTree.{SystemTree}
use Rattle.flatten.specs.Points.{Point, Itself, point_of, IsOfSystem, IsVariable}

-- this connection leads from the one point to the other
pub record JoinsBy (t : SystemTree) (shapes : List Shape) (k : Connection)
    (p q : Point) : Type 0 where
  pub is : Contains t.connections k
  pub start : point_of t shapes k.start ≡ Some p
  pub end : point_of t shapes k.end ≡ Some q

abbrev pub Joins : SystemTree → List Shape → Point → Point → Type 0
Joins t shapes p q = (k : Connection) × JoinsBy t shapes k p q

-- a path of connections leads from the one to the other, through connectors of systems only
abbrev pub Leads : SystemTree → List Shape → Point → Point → Type 0
Leads t shapes p q = Reaches (Joins t shapes) (IsOfSystem t) p q

-- these connections, one after the other, lead from the one point to the other, through connectors of systems only
abbrev pub LeadsBy : SystemTree → List Shape → Point → List Connection → Point → Type 0
LeadsBy t shapes p [] q = ⊥
LeadsBy t shapes p (k ∷ []) q = JoinsBy t shapes k p q
LeadsBy t shapes p (k ∷ (l ∷ ks)) q =
    (s : Point) × JoinsBy t shapes k p s × IsOfSystem t s × LeadsBy t shapes s (l ∷ ks) q

-- what connections do to values, one after the other
abbrev pub changes_along : List Connection → List Change
changes_along ks = filter_map (λ (k : Connection). k.change) ks

-- the output feeds the input along a path that makes these changes of its values
pub record Feeds (t : SystemTree) (shapes : List Shape) (p : Point) (changes : List Change)
    (q : Point) : Type 0 where
  pub output : Variable
  pub input : Variable
  pub from : IsVariable shapes Output p output
  pub to : IsVariable shapes Input q input
  pub path : List Connection
  pub leads : LeadsBy t shapes p path q
  pub makes : changes ≡ changes_along path

-- ---- the last connection of a path

-- a path leads to where a connection begins: there it begins itself, or it passes through
abbrev pub LeadsUpTo : SystemTree → List Shape → Point → Point → Type 0
LeadsUpTo t shapes p s = (p ≡ s) ⊎ (IsOfSystem t s × Leads t shapes p s)

-- the connection is the last of a path from an output to an input; it begins at s
pub record EndsBy (t : SystemTree) (shapes : List Shape) (k : Connection) (p s q : Point)
    (output input : Variable) : Type 0 where
  pub from : IsVariable shapes Output p output
  pub to : IsVariable shapes Input q input
  pub up_to : LeadsUpTo t shapes p s
  pub last : JoinsBy t shapes k s q

-- from where a connection ends a path leads on to an input: it is there, or it passes through
abbrev pub LeadsOnTo : SystemTree → List Shape → Point → Point → Type 0
LeadsOnTo t shapes e q = (e ≡ q) ⊎ (IsOfSystem t e × Leads t shapes e q)

-- the connection stands on a path from an output to this input
pub record IsBefore (t : SystemTree) (shapes : List Shape) (k : Connection)
    (input : Variable) : Type 0 where
  pub output : Variable
  pub p : Point
  pub s : Point
  pub e : Point
  pub q : Point
  pub from : IsVariable shapes Output p output
  pub up_to : LeadsUpTo t shapes p s
  pub is : JoinsBy t shapes k s e
  pub on : LeadsOnTo t shapes e q
  pub to : IsVariable shapes Input q input

-- ---- other trees

-- the tree with its connections without a transformation alone
abbrev pub plain : SystemTree → SystemTree
plain t = record t {
  connections = filter (λ (k : Connection). not (is_some k.change)) t.connections;
}

-- the tree with its connections reversed
abbrev pub turned : SystemTree → SystemTree
turned t = record t {
  connections = map (λ (k : Connection). record k { start = k.end; end = k.start }) t.connections;
}

-- ---- connectors on a path

-- a connector stands on such a path: the output leads to it, and it leads to where the last connection begins
abbrev pub IsOn : SystemTree → List Shape → Point → Point → ℕ → Type 0
IsOn t shapes p s c =
    IsOfSystem t (Itself c) × Leads t shapes p (Itself c) × LeadsUpTo t shapes (Itself c) s
