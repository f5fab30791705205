-- The rules of connectors and of paths, connector by connector and connection by connection.
use Rattle.std.specs.Prelude.{◌≡◌, ◌≢◌, ℕ, ◌+◌, false, List, Option, Some, None, IsSomeAnd, option_and_then, if◌then◌else◌}
use Rattle.value_types.specs.declared.shape.Causality.TheVariants.{Output}
use Rattle.value_types.specs.Shape.{is_input}
use Rattle.value_types.specs.declared.shape.Variable.{Variable}
use Rattle.value_types.specs.declared.shape.Shape.{Shape}
use Rattle.value_types.specs.declared.values.PortType.{PortType}
use Rattle.value_types.specs.declared.joint.Class.{Class}
use Rattle.value_types.specs.declared.joint.Joint.TheVariants.{WrongRange}
use Rattle.value_types.specs.Joint as types
use Rattle.dependency_order.specs.Paths.{IsMarked}
use Rattle.flatten.specs.declared.marks.ClassMarks.{ClassMarks}
use Rattle.flatten.specs.declared.marks.TypeMarks.{TypeMarks}
use Rattle.doc_tree.specs.declared.rule.FlatteningRule.{FlatteningRule}
use Rattle.doc_tree.specs.declared.rule.FlatteningRule.TheVariants.{NoSuchVariable, OtherCausality, OtherClass, EndTwice, TooWide, FedClock, OtherChange}
use Rattle.connection_paths.specs.declared.point.Point as paths
use Rattle.connection_paths.specs.declared.point.Point.TheVariants.{Variable as Numbered, OfSystem}
use Rattle.ssd_tree.specs.declared.tree.Connector.{Connector}
use Rattle.ssd_tree.specs.declared.tree.SystemTree.{SystemTree}
use Rattle.flatten.specs.Points.{Point, is_of_system, variable_of, point_of, IsVariable}
use Rattle.flatten.specs.Paths.{LeadsUpTo, plain}
use Rattle.flatten.specs.Rules.{PathFault, IsConnectorAt, EndsPath, HasOtherCausality, HasOtherType, IsOtherClass, IsTooWide, IsTimeBased}

-- the connector breaks the rule by itself
abbrev pub ConnectorBreaks : SystemTree → List Shape → FlatteningRule → ℕ → Connector → Type 0
ConnectorBreaks t shapes NoSuchVariable c k =
    (is_of_system k.owner ≡ false) × (variable_of t shapes c ≡ None)
ConnectorBreaks t shapes OtherCausality c k =
    IsSomeAnd (variable_of t shapes c) (HasOtherCausality k)
ConnectorBreaks t shapes OtherClass c k = IsSomeAnd (variable_of t shapes c) (HasOtherType k)
ConnectorBreaks t shapes EndTwice c k = ⊥
ConnectorBreaks t shapes TooWide c k = ⊥
ConnectorBreaks t shapes FedClock c k = ⊥
ConnectorBreaks t shapes OtherChange c k = ⊥

abbrev pub IsBrokenConnector : SystemTree → List Shape → FlatteningRule → ℕ → Type 0
IsBrokenConnector t shapes rule node =
    (c : ℕ) × ((k : Connector) × IsConnectorAt t node c k × ConnectorBreaks t shapes rule c k)

-- what the ends of a path may break
abbrev pub path_fault : SystemTree → List Shape → FlatteningRule → PathFault
path_fault t shapes NoSuchVariable p s q output input = ⊥
path_fault t shapes OtherCausality p s q output input = ⊥
path_fault t shapes OtherClass p s q output input = IsOtherClass t shapes p s q output input
path_fault t shapes EndTwice p s q output input = ⊥
path_fault t shapes TooWide p s q output input = IsTooWide p s q output input
path_fault t shapes FedClock p s q output input = IsTimeBased shapes p s q output input
path_fault t shapes OtherChange p s q output input = ⊥

-- the tree whose paths the rule is about
abbrev pub tree_for : FlatteningRule → SystemTree → SystemTree
tree_for NoSuchVariable t = t
tree_for OtherCausality t = t
tree_for OtherClass t = t
tree_for EndTwice t = t
tree_for TooWide t = plain t
tree_for FedClock t = t
tree_for OtherChange t = t

abbrev pub IsBrokenConnection : SystemTree → List Shape → FlatteningRule → ℕ → Type 0
IsBrokenConnection t shapes rule node =
    EndsPath (path_fault t shapes rule) (tree_for rule t) shapes node

-- ---- one connection, by the connectors that it joins

-- the input that a connector names
abbrev pub input_of : SystemTree → List Shape → ℕ → Option Variable
input_of t shapes c =
    option_and_then (λ (x : Variable). if is_input x.causality then Some x else None)
    (variable_of t shapes c)

-- some output leads up to the start, and the path from there on to this input has the fault
pub record IsReachedAt (Fault : PathFault) (t : SystemTree) (shapes : List Shape) (start end : ℕ)
    (input : Variable) : Type 0 where
  pub output : Variable
  pub p : Point
  pub s : Point
  pub q : Point
  pub from : IsVariable shapes Output p output
  pub begins : point_of t shapes start ≡ Some s
  pub ends : point_of t shapes end ≡ Some q
  pub up_to : LeadsUpTo t shapes p s
  pub broken : Fault p s q output input

-- the same of a fault for which it doesn't matter where the path ends
pub record IsReachedBy (Fault : PathFault) (t : SystemTree) (shapes : List Shape) (start : ℕ)
    (input : Variable) : Type 0 where
  pub output : Variable
  pub p : Point
  pub s : Point
  pub from : IsVariable shapes Output p output
  pub begins : point_of t shapes start ≡ Some s
  pub up_to : LeadsUpTo t shapes p s
  pub broken : (q : Point) → Fault p s q output input

-- ---- marks

-- something of another class leads up to the connector
abbrev pub TellsOther : ℕ → Option Class → ClassMarks → Type 0
TellsOther c wanted marks = (marks.class ≢ wanted) × IsMarked marks.reached.items c

-- outputs of a type that is too wide lead up to it
abbrev pub TellsTooWide : ℕ → Option PortType → TypeMarks → Type 0
TellsTooWide c to marks =
    IsMarked marks.reached.items c ×
    IsSomeAnd to (λ (wanted : PortType). types.Joins marks.kind wanted WrongRange)

-- ---- ends

-- a number for what a connector stands for, after those of all variables where it is a System's
abbrev pub number_of : ℕ → paths.Point → ℕ
number_of count (Numbered number) = number
number_of count (OfSystem c) = count + c
