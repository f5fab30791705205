-- The rules of connectors and connections together with the variables that they name (SSP 1.0, 5.3.2 and 5.3.3; and narrowings of this profile), each a statement about a tree of systems, the shapes of its components, and an element of the document.
use Rattle.std.specs.Prelude.{◌≡◌, ◌≢◌, ◌⊎◌, ℕ, ◌+◌, ◌<◌, false, List, Option, Some, None, IsSomeAnd, option_and_then, slice_get, take, map, min, sum, count_by, Contains}
use Rattle.std.specs.Option.{option_map}
use Rattle.value_types.specs.declared.shape.Causality.{Causality}
use Rattle.value_types.specs.declared.shape.Causality.TheVariants as causality
use Rattle.value_types.specs.declared.shape.IntervalVariability.TheVariants.{Triggered}
use Rattle.value_types.specs.declared.shape.ClockTiming.{ClockTiming}
use Rattle.value_types.specs.declared.shape.Variable.{Variable}
use Rattle.value_types.specs.declared.shape.Shape.{Shape}
use Rattle.value_types.specs.declared.values.PortType.{PortType}
use Rattle.value_types.specs.declared.joint.Class.{Class}
use Rattle.value_types.specs.declared.joint.Class.TheVariants as class
use Rattle.value_types.specs.declared.joint.Joint.TheVariants.{WrongRange}
use Rattle.value_types.specs.Joint as types
use Rattle.value_types.specs.Joint.{class_of}
use Rattle.value_types.specs.Shape.{is_port, timing_at}
use Rattle.doc_tree.specs.declared.rule.Rule.{Rule}
use Rattle.doc_tree.specs.declared.rule.Rule.TheVariants.{Document, Description, System, Nesting, Flattening, Loop, SavesNoState, TooManyPorts, Parameters, CannotBeHeld}
use Rattle.doc_tree.specs.declared.rule.FlatteningRule.{FlatteningRule}
use Rattle.doc_tree.specs.declared.rule.FlatteningRule.TheVariants as f
use Rattle.doc_tree.specs.Rules.{number}
use Rattle.doc_tables.specs.Tables.{IsRepeated}
use Rattle.doc_tables.specs.Violations as all
use Rattle.ssd_tree.specs.declared.tree.ConnectorKind.{ConnectorKind}
use Rattle.ssd_tree.specs.declared.tree.ConnectorKind.TheVariants as kind
use Rattle.ssd_tree.specs.declared.tree.TypeChild.{TypeChild}
use Rattle.ssd_tree.specs.declared.tree.TypeChild.TheVariants as child
use Rattle.ssd_tree.specs.declared.tree.Connector.{Connector}
use Rattle.ssd_tree.specs.declared.tree.Connection.{Connection}
use Rattle.ssd_tree.specs.declared.tree.ComponentPart.{ComponentPart}
use Rattle.ssd_tree.specs.declared.tree.SystemTree.{SystemTree}
use Rattle.system_model.specs.EarlyReturn.{early_count}
use Rattle.flatten.specs.Points.{Point, OfComponent, Itself, is_of_system, variable_of, point_of}
use Rattle.parameter_values.specs.declared.change.Change.{Change}
use Rattle.system_model.specs.Carried.{IsOn as IsFor}
use Rattle.flatten.specs.Paths.{EndsBy, IsBefore, IsOn, plain}

-- ---- classes: of an ignored variable, and of a type that none but an ignored variable has, there is none

abbrev pub class_at : Variable → Option Class
class_at x = option_map class_of x.kind

abbrev pub child_class : TypeChild → Option Class
child_class child.Integer = Some class.Integer
child_class child.Boolean = Some class.Boolean
child_class child.Enumeration = Some class.Enumeration
child_class child.Other = None

-- a connector gives a type of another class
abbrev pub GivesOther : Option TypeChild → Option Class → Type 0
GivesOther None wanted = ⊥
GivesOther (Some type) wanted = child_class type ≢ wanted

-- ---- connectors

-- the element is the connector at this place
abbrev pub IsConnectorAt : SystemTree → ℕ → ℕ → Connector → Type 0
IsConnectorAt t node c k = (slice_get t.connectors c ≡ Some k) × (k.node ≡ node)

-- a connector of a component that names none of its variables
abbrev pub NamesNoVariable : SystemTree → List Shape → ℕ → Type 0
NamesNoVariable t shapes node =
    (c : ℕ) × ((k : Connector) × IsConnectorAt t node c k × (is_of_system k.owner ≡ false) ×
    (variable_of t shapes c ≡ None))

-- a connector and the variable that it names, in this relation
abbrev pub IsOfConnector : (Connector → Variable → Type 0) → SystemTree → List Shape → ℕ → Type 0
IsOfConnector R t shapes node =
    (c : ℕ) × ((k : Connector) × ((x : Variable) × IsConnectorAt t node c k ×
    (variable_of t shapes c ≡ Some x) × R k x))

abbrev pub IsForOther : ConnectorKind → Causality → Type 0
IsForOther kind.Input x = x ≢ causality.Input
IsForOther kind.Output x = x ≢ causality.Output
IsForOther kind.Parameter x = ⊥
IsForOther kind.CalculatedParameter x = ⊥

abbrev pub HasOtherCausality : Connector → Variable → Type 0
HasOtherCausality k x = IsForOther k.kind x.causality

-- its type isn't that of its variable, which isn't ignored
abbrev pub HasOtherType : Connector → Variable → Type 0
HasOtherType k x = (x.kind ≢ None) × GivesOther k.child (class_at x)

-- ---- paths

-- what two ends of a path and the point where its last connection begins may break
abbrev pub PathFault : Type 1
PathFault = Point → Point → Point → Variable → Variable → Type 0

-- the connection is the last of a path from an output to an input that has this fault
abbrev pub IsLastOf : PathFault → SystemTree → List Shape → Connection → Type 0
IsLastOf Fault t shapes k =
    (p : Point) × ((s : Point) × ((q : Point) ×
    ((output : Variable) × ((input : Variable) × EndsBy t shapes k p s q output input ×
    Fault p s q output input))))

abbrev pub EndsPath : PathFault → SystemTree → List Shape → ℕ → Type 0
EndsPath Fault t shapes node = (k : Connection) × (k.node ≡ node) × IsLastOf Fault t shapes k

-- a connector of a System on the path gives a type of another class
abbrev pub PassesOther : SystemTree → List Shape → Point → Point → Option Class → Type 0
PassesOther t shapes p s wanted =
    (c : ℕ) × ((k : Connector) × IsOn t shapes p s c × (slice_get t.connectors c ≡ Some k) ×
    GivesOther k.child wanted)

-- the input is ignored, or the output or a connector between them is of another class
abbrev pub IsOtherClass : SystemTree → List Shape → PathFault
IsOtherClass t shapes p s q output input =
    (input.kind ≡ None) ⊎ ((class_at output ≢ class_at input) ⊎
    PassesOther t shapes p s (class_at input))

-- both are of one class, and some value of the output is none of the input
abbrev pub IsTooWide : PathFault
IsTooWide p s q output input =
    IsSomeAnd output.kind (λ (from : PortType).
    IsSomeAnd input.kind (λ (to : PortType). types.Joins from to WrongRange))

-- the change is for values of the class, where there is one
abbrev pub Suits : Change → Option Class → Type 0
Suits change None = ⊥
Suits change (Some c) = IsFor c change

-- the connection has a transformation, and stands on a path from an output to an input whose class has others
abbrev pub HasOtherChange : SystemTree → List Shape → Connection → Type 0
HasOtherChange t shapes k =
    (change : Change) × (k.change ≡ Some change) × ((input : Variable) ×
    IsBefore t shapes k input × (Suits change (class_at input) → ⊥))

-- the input is a Clock of any variability but triggered
abbrev pub IsTimeBased : List Shape → PathFault
IsTimeBased shapes p s (OfComponent component reference) output input =
    IsSomeAnd (slice_get shapes component) (λ (x : Shape).
    IsSomeAnd (timing_at x.clocks reference) (λ (clock : ClockTiming).
    clock.variability ≢ Triggered))
IsTimeBased shapes p s (Itself c) output input = ⊥

-- ---- ends

-- where a connection ends
abbrev pub end_at : SystemTree → List Shape → ℕ → Option Point
end_at t shapes i =
    option_and_then (λ (k : Connection). point_of t shapes k.end) (slice_get t.connections i)

-- a connection before this one ends where it does; one end is that of the connections of one System
abbrev pub RepeatsEnd : SystemTree → List Shape → ℕ → Type 0
RepeatsEnd t shapes node =
    (i : ℕ) × ((k : Connection) × (slice_get t.connections i ≡ Some k) × (k.node ≡ node) ×
    IsRepeated (end_at t shapes) i)

-- ---- ports

abbrev pub ports_in : Shape → ℕ
ports_in shape = count_by is_port shape.variables

-- with this component the ports are more than 65,536
abbrev pub HasTooManyPorts : SystemTree → List Shape → ℕ → Type 0
HasTooManyPorts t shapes node =
    (i : ℕ) × ((c : ComponentPart) × (slice_get t.components i ≡ Some c) × (c.node ≡ node) ×
    (65536 < sum (map ports_in (take (i + 1) shapes))))

-- ---- states

-- the component can't save its state, though two or more might return early
abbrev pub IsUnsaved : List Shape → ℕ → Type 0
IsUnsaved shapes i =
    IsSomeAnd (slice_get shapes i) (λ (s : Shape). s.can_save_state ≡ false) ×
    (1 < early_count shapes)

-- the element is such a component
abbrev pub HasNoSavedState : SystemTree → List Shape → ℕ → Type 0
HasNoSavedState t shapes node =
    (i : ℕ) × ((c : ComponentPart) × (slice_get t.components i ≡ Some c) × (c.node ≡ node) ×
    IsUnsaved shapes i)

-- ---- the rules

abbrev pub Breaks : SystemTree → List Shape → FlatteningRule → ℕ → Type 0
-- 40: a connector of a component names no variable
Breaks t shapes f.NoSuchVariable node = NamesNoVariable t shapes node
-- 41: a connector is an input or output, and its variable has another causality
Breaks t shapes f.OtherCausality node = IsOfConnector HasOtherCausality t shapes node
-- 42: a connector isn't of its variable's class; or the last connection of a path whose ends and connectors aren't of one class, or that has an ignored end
Breaks t shapes f.OtherClass node =
    IsOfConnector HasOtherType t shapes node ⊎ EndsPath (IsOtherClass t shapes) t shapes node
-- 43: the second of two connections with one end
Breaks t shapes f.EndTwice node = RepeatsEnd t shapes node
-- 44: the last connection of a path without transformations to an input that can't hold each value of the output
Breaks t shapes f.TooWide node = EndsPath IsTooWide (plain t) shapes node
-- 45: the last connection of a path to a time-based Clock
Breaks t shapes f.FedClock node = EndsPath (IsTimeBased shapes) t shapes node
-- 58: a connection with a linear transformation or a mapping of integers on a path to an input that isn't of that class, or with a mapping of Booleans on one to an input that is no Boolean
Breaks t shapes f.OtherChange node =
    (k : Connection) × Contains t.connections k × (k.node ≡ node) × HasOtherChange t shapes k

-- the element breaks the rule; other rules aren't tested here
abbrev pub ViolatesFlattening : SystemTree → List Shape → Rule → ℕ → Type 0
ViolatesFlattening t shapes (Document rule) node = ⊥
ViolatesFlattening t shapes (Description rule) node = ⊥
ViolatesFlattening t shapes (System rule) node = ⊥
ViolatesFlattening t shapes (Nesting rule) node = ⊥
ViolatesFlattening t shapes (Flattening rule) node = Breaks t shapes rule node
ViolatesFlattening t shapes Loop node = ⊥
-- 47: a component whose state can't be saved, where two or more might return early
ViolatesFlattening t shapes SavesNoState node = HasNoSavedState t shapes node
-- 49: a component with which the ports are more than a system may have
ViolatesFlattening t shapes TooManyPorts node = HasTooManyPorts t shapes node
ViolatesFlattening t shapes (Parameters rule) node = ⊥
ViolatesFlattening t shapes CannotBeHeld node = ⊥

-- the first violation: at the first element in document order that breaks a rule, the one of the least number
abbrev pub IsFirstFlatteningViolation : SystemTree → List Shape → ℕ → Rule → Type 0
IsFirstFlatteningViolation t shapes node rule = all.IsFirstViolation number (ViolatesFlattening t shapes) node rule

-- no element breaks a rule
abbrev pub IsFitting : SystemTree → List Shape → Type 0
IsFitting t shapes = all.HasNoViolation (ViolatesFlattening t shapes)

-- the lesser of two elements, where there are both
abbrev pub earlier : Option ℕ → Option ℕ → Option ℕ
earlier None other = other
earlier (Some one) None = Some one
earlier (Some one) (Some other) = Some (min one other)
