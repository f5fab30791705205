-- The rules of what bindings give to parameters (SSP 1.0: the types of values and parameters; and narrowings of this profile), each a statement about a tree of systems, the shapes of its components, the sets of its bindings, and a place.
use Rattle.std.specs.Prelude.{◌≡◌, ◌≢◌, ◌⊎◌, ◌<◌, ℕ, Bool, true, false, List, Option, Some, slice_get}
use Rattle.value_types.specs.declared.values.PortType.{PortType}
use Rattle.value_types.specs.declared.shape.Shape.{Shape}
use Rattle.doc_tree.specs.declared.rule.ParameterRule.{ParameterRule}
use Rattle.doc_tree.specs.declared.rule.ParameterRule.TheVariants as r
use Rattle.doc_tree.specs.Rules.{parameter_number}
use Rattle.parameter_values.specs.declared.change.Change.{Change}
use Rattle.parameter_values.specs.declared.set.Mapping.{Mapping}
use Rattle.parameter_values.specs.declared.set.MappingEntry.{MappingEntry}
use Rattle.parameter_values.specs.declared.set.ParameterValue.{ParameterValue}
use Rattle.parameter_values.specs.declared.set.Transformation.{Transformation}
use Rattle.parameter_values.specs.Values as values
use Rattle.ssd_tree.specs.declared.tree.SystemTree.{SystemTree}
use Rattle.parameter_binding.specs.declared.sets.BindingSets.{BindingSets}
use Rattle.parameter_targets.specs.declared.target.Target.{Target}
use Rattle.parameter_targets.specs.Scopes.{Sees}
use Rattle.parameter_binding.specs.Binds.{Triple, ReachesTarget, mapping_of}

-- ---- places

-- an element of a set or of a mapping, by its binding: in one binding the set stands before the mapping
pub record Place : Type 0 where
  pub binding : ℕ
  pub in_mapping : Bool
  pub node : ℕ

abbrev pub IsSetBefore : Bool → Bool → Type 0
IsSetBefore false true = Unit {0}
IsSetBefore a b = ⊥

abbrev pub IsBefore : Place → Place → Type 0
IsBefore p q =
    (p.binding < q.binding) ⊎ ((p.binding ≡ q.binding) ×
    (IsSetBefore p.in_mapping q.in_mapping ⊎
    ((p.in_mapping ≡ q.in_mapping) × (p.node < q.node))))

-- ---- what is reached

-- a triple reaches a target of this type
pub record ReachesKind (t : SystemTree) (shapes : List Shape) (sets : List BindingSets) (c : Triple)
    (kind : PortType) : Type 0 where
  pub target : Target
  pub reaches : ReachesTarget t shapes sets target c
  pub kind_is : reaches.sees.variable.kind ≡ Some kind

-- the triple is of the Parameter at this place and reaches a target, and this holds of its change, its value and the target's type
pub record HoldsAt (R : Option Change → ParameterValue → PortType → Type 0) (t : SystemTree)
    (shapes : List Shape) (sets : List BindingSets) (p : Place) (triple : Triple) : Type 0 where
  pub kind : PortType
  pub of : ReachesKind t shapes sets triple kind
  pub binding : triple.binding ≡ p.binding
  pub in_set : p.in_mapping ≡ false
  pub node : of.reaches.parameter.node ≡ p.node
  pub is : R of.reaches.change of.reaches.parameter.value kind

-- the transformation at this place is of the entry by which the triple reaches a target of another class
pub record ReachesOther (t : SystemTree) (shapes : List Shape) (sets : List BindingSets) (p : Place)
    (triple : Triple) : Type 0 where
  pub kind : PortType
  pub of : ReachesKind t shapes sets triple kind
  pub binding : triple.binding ≡ p.binding
  pub in_mapping : p.in_mapping ≡ true
  pub mapping : Mapping
  pub has : mapping_of of.reaches.is.given ≡ Some mapping
  pub entry : MappingEntry
  pub entry_is : slice_get mapping.entries triple.entry ≡ Some entry
  pub transformation : Transformation
  pub transforms : entry.transformation ≡ Some transformation
  pub node : transformation.node ≡ p.node
  pub other : values.HasOtherChange (Some transformation.change) kind

-- the triple is of the Parameter at this place and names two targets
pub record NamesTwo (t : SystemTree) (shapes : List Shape) (sets : List BindingSets) (p : Place)
    (triple : Triple) : Type 0 where
  pub target : Target
  pub other : Target
  pub apart : target ≢ other
  pub reaches : ReachesTarget t shapes sets target triple
  pub sees : Sees t shapes reaches.binding.owner reaches.name other
  pub binding : triple.binding ≡ p.binding
  pub in_set : p.in_mapping ≡ false
  pub node : reaches.parameter.node ≡ p.node

-- ---- the rules

-- by the triple the element at the place breaks the rule, whether its value wins or not; the rules of the reading of files aren't tested here
abbrev pub Breaks : SystemTree → List Shape → List BindingSets → ParameterRule →
    Place → Triple → Type 0
Breaks t shapes sets r.Structure p c = ⊥
Breaks t shapes sets r.Incomplete p c = ⊥
-- 52: a value reaches a parameter of another class
Breaks t shapes sets r.OtherClass p c = HoldsAt values.HasOtherClass t shapes sets p c
-- 53: a value reaches a parameter whose type doesn't hold it
Breaks t shapes sets r.OutOfRange p c = HoldsAt values.IsOutside t shapes sets p c
-- 54: a transformation reaches a parameter of another class
Breaks t shapes sets r.Transformation p c = ReachesOther t shapes sets p c
-- 55: a mapping of values has no entry for a value
Breaks t shapes sets r.NoMapEntry p c = HoldsAt values.HasNoPair t shapes sets p c
-- 56: a name is that of two parameters
Breaks t shapes sets r.NamesTwo p c = NamesTwo t shapes sets p c

-- the element at the place breaks the rule
abbrev pub ViolatesParameters : SystemTree → List Shape → List BindingSets → ParameterRule → Place → Type 0
ViolatesParameters t shapes sets rule p = (c : Triple) × Breaks t shapes sets rule p c

-- the first violation: at the first place that breaks a rule, the one of the least number
pub record IsFirstParameterViolation (t : SystemTree) (shapes : List Shape) (sets : List BindingSets)
    (p : Place) (rule : ParameterRule) : Type 0 where
  pub broken : ViolatesParameters t shapes sets rule p
  pub least : (other : ParameterRule) → parameter_number other < parameter_number rule →
      ViolatesParameters t shapes sets other p → ⊥
  pub first : (q : Place) (other : ParameterRule) → IsBefore q p →
      ViolatesParameters t shapes sets other q → ⊥

-- no place breaks a rule
abbrev pub IsFitting : SystemTree → List Shape → List BindingSets → Type 0
IsFitting t shapes sets = (rule : ParameterRule) (p : Place) → ViolatesParameters t shapes sets rule p → ⊥
