-- What leads up to a connector: from some connectors, from outputs of a class, and from outputs of a type.
use Rattle.std.specs.Prelude.{◌≡◌, ◌≢◌, ◌⊎◌, ◌↔◌, ℕ, ◌<◌, Bool, List, length, slice_get, Option, Some, IsSomeAnd}
use Rattle.std.specs.List.{AllZip}
use Rattle.dependency_order.specs.Paths.{IsMarked}
use Rattle.value_types.specs.declared.shape.Causality.TheVariants.{Input, Output}
use Rattle.value_types.specs.declared.shape.Variable.{Variable}
use Rattle.value_types.specs.declared.shape.Shape.{Shape}
use Rattle.value_types.specs.declared.values.PortType.{PortType}
use Rattle.value_types.specs.declared.joint.Class.{Class}
use Rattle.value_types.specs.declared.joint.Class.TheVariants as class
use Rattle.parameter_values.specs.declared.change.Change.{Change}
use Rattle.parameter_values.specs.declared.change.Change.TheVariants.{Linear, Integers, Booleans}
use Rattle.ssd_tree.specs.declared.tree.Connector.{Connector}
use Rattle.ssd_tree.specs.declared.tree.TypeChild.{TypeChild}
use Rattle.ssd_tree.specs.declared.tree.SystemTree.{SystemTree}
use Rattle.flatten.specs.declared.marks.ClassMarks.{ClassMarks}
use Rattle.flatten.specs.declared.marks.TypeMarks.{TypeMarks}
use Rattle.flatten.specs.declared.marks.Marks.{Marks}
use Rattle.flatten.specs.declared.marks.TheConstants.{CLASSES, INTEGER_TYPES}
use Rattle.flatten.specs.Points.{Point, Itself, point_of, variable_of, IsOfSystem}
use Rattle.flatten.specs.Paths.{LeadsUpTo, plain, turned}
use Rattle.flatten.specs.Rules.{class_at, child_class}

-- ---- from marked connectors

-- a marked connector stands for a point that leads up to the point of c
pub record IsLedTo (t : SystemTree) (shapes : List Shape) (IsStart : ℕ → Type 0)
    (c : ℕ) : Type 0 where
  pub start : ℕ
  pub from : Point
  pub to : Point
  pub is_start : IsStart start
  pub stands : point_of t shapes start ≡ Some from
  pub there : point_of t shapes c ≡ Some to
  pub leads : LeadsUpTo t shapes from to

-- just the connectors that these lead up to are marked
pub record AreLedTo (t : SystemTree) (shapes : List Shape) (IsStart : ℕ → Type 0)
    (reached : List Bool) : Type 0 where
  pub len : length reached ≡ length t.connectors
  pub each : (c : ℕ) → c < length t.connectors → IsMarked reached c ↔ IsLedTo t shapes IsStart c

-- just the connectors of which this is so are marked
pub record AreMarked (t : SystemTree) (IsSo : ℕ → Type 0) (marks : List Bool) : Type 0 where
  pub len : length marks ≡ length t.connectors
  pub each : (c : ℕ) → c < length t.connectors → IsMarked marks c ↔ IsSo c

-- marks that all connectors of one point share
abbrev pub AreShared : SystemTree → List Shape → List Bool → Type 0
AreShared t shapes marks =
    (c d : ℕ) (p : Point) → point_of t shapes c ≡ Some p → point_of t shapes d ≡ Some p →
    IsMarked marks c → IsMarked marks d

-- ---- the starts

-- the connector names an output, in this relation to it
abbrev pub NamesOutput : (Variable → Type 0) → SystemTree → List Shape → ℕ → Type 0
NamesOutput R t shapes c =
    IsSomeAnd (variable_of t shapes c) (λ (x : Variable). (x.causality ≡ Output) × R x)

abbrev pub IsOutputAt : SystemTree → List Shape → ℕ → Type 0
IsOutputAt t shapes c = NamesOutput (λ x. Unit {0}) t shapes c

-- a connector of a System with a type of this class
abbrev pub GivesClass : SystemTree → Option Class → ℕ → Type 0
GivesClass t class c =
    IsOfSystem t (Itself c) × IsSomeAnd (slice_get t.connectors c) (λ (k : Connector).
    IsSomeAnd k.child (λ (type : TypeChild). child_class type ≡ class))

-- an output of the class, or a connector of a System with a type of it that some output leads to
abbrev pub IsOfClass : SystemTree → List Shape → Option Class → ℕ → Type 0
IsOfClass t shapes class c =
    NamesOutput (λ x. class_at x ≡ class) t shapes c ⊎
    (IsLedTo t shapes (IsOutputAt t shapes) c × GivesClass t class c)

abbrev pub IsOfType : SystemTree → List Shape → PortType → ℕ → Type 0
IsOfType t shapes kind c = NamesOutput (λ x. x.kind ≡ Some kind) t shapes c

-- ---- all passes

abbrev pub AreClassMarks : SystemTree → List Shape → Option Class → ClassMarks → Type 0
AreClassMarks t shapes class marks =
    (marks.class ≡ class) × AreLedTo t shapes (IsOfClass t shapes class) marks.reached.items

abbrev pub AreTypeMarks : SystemTree → List Shape → PortType → TypeMarks → Type 0
AreTypeMarks t shapes kind marks =
    (marks.kind ≡ kind) × AreLedTo t shapes (IsOfType t shapes kind) marks.reached.items

-- the connector names an input whose class the changes of this class aren't for
abbrev pub IsInputBeside : Class → SystemTree → List Shape → ℕ → Type 0
IsInputBeside class t shapes c =
    IsSomeAnd (variable_of t shapes c) (λ (x : Variable).
    (x.causality ≡ Input) × (class_at x ≢ Some class))

-- just the connectors are marked that lead on to such an input: along the reversed connections it leads up to them
abbrev pub AreLeadingOn : Class → SystemTree → List Shape → List Bool → Type 0
AreLeadingOn class t shapes marks =
    AreLedTo (turned t) shapes (IsInputBeside class t shapes) marks

-- the marks of any output, of all classes, of the types that have several ranges in one class, along paths without transformations, and of what leads on to inputs that are no integers or no Booleans
pub record HasMarks (t : SystemTree) (shapes : List Shape) (marks : Marks) : Type 0 where
  pub fed : AreLedTo t shapes (IsOutputAt t shapes) marks.fed.items
  pub classes : AllZip (AreClassMarks t shapes) CLASSES marks.classes.items
  pub types : AllZip (AreTypeMarks (plain t) shapes) INTEGER_TYPES marks.types.items
  pub no_integers : AreLeadingOn class.Integer t shapes marks.no_integers.items
  pub no_booleans : AreLeadingOn class.Boolean t shapes marks.no_booleans.items

-- of what leads on, that to inputs of other classes than the change is for
abbrev pub beside_marks : Marks → Change → List Bool
beside_marks marks (Linear factor offset) = marks.no_integers.items
beside_marks marks (Integers pairs) = marks.no_integers.items
beside_marks marks (Booleans pairs) = marks.no_booleans.items
