-- What a set of parameter values and a mapping of parameters say (SSP 1.0: ParameterSet, ParameterMapping).
use Rattle.std.specs.Prelude.{◌≡◌, ℕ, false, true, List, Option, Some, None, codes}
use Rattle.std.specs.List.{AllZip}
use Rattle.parameter_values.specs.declared.set.Mapping.{Mapping}
use Rattle.parameter_values.specs.declared.set.MappingEntry.{MappingEntry}
use Rattle.parameter_values.specs.declared.set.Parameter.{Parameter}
use Rattle.parameter_values.specs.declared.set.ParameterSet.{ParameterSet}
use Rattle.parameter_values.specs.declared.set.ParameterValue.{ParameterValue}
use Rattle.parameter_values.specs.declared.set.ParameterValue.TheVariants as value
use Rattle.parameter_values.specs.declared.set.Transformation.{Transformation}
use Rattle.doc_grammar.specs.Nodes.{Node}
use Rattle.doc_tables.specs.Elements.{attribute, is_named}
use Rattle.transformations.specs.Changes.{IsChange}
use Rattle.transformations.specs.Elements.{first_transformation}
use Rattle.transformations.specs.Numbers.{IsBoolean, IsWholeNumber}
use Rattle.parameter_sets.specs.Elements.{entries, first_value, parameters}

-- ---- values

-- the element gives this value; of a type that is unsupported, or of none, it gives another
abbrev pub IsValue : List Node → Option ℕ → ParameterValue → Type 0
IsValue t None (value.Integer x) = ⊥
IsValue t None (value.Boolean x) = ⊥
IsValue t None value.Other = Unit {0}
IsValue t (Some c) (value.Integer x) =
    (is_named t c (codes "Integer") ≡ true) × IsWholeNumber t c (codes "value") x
IsValue t (Some c) (value.Boolean x) =
    (is_named t c (codes "Boolean") ≡ true) × IsBoolean t c (codes "value") x
IsValue t (Some c) value.Other =
    (is_named t c (codes "Integer") ≡ false) × (is_named t c (codes "Boolean") ≡ false)

pub record IsParameter (t : List Node) (k : ℕ) (x : Parameter) : Type 0 where
  pub node : x.node ≡ k
  pub name : attribute t k (codes "name") ≡ Some x.name
  pub value : IsValue t (first_value t k) x.value

-- ---- transformations

abbrev pub IsTransformation : List Node → Option ℕ → Option Transformation → Type 0
IsTransformation t None None = Unit {0}
IsTransformation t None (Some x) = ⊥
IsTransformation t (Some k) None = ⊥
IsTransformation t (Some k) (Some x) = (x.node ≡ k) × IsChange t k x.change

pub record IsEntry (t : List Node) (k : ℕ) (x : MappingEntry) : Type 0 where
  pub node : x.node ≡ k
  pub source : attribute t k (codes "source") ≡ Some x.source
  pub target : attribute t k (codes "target") ≡ Some x.target
  pub transformation : IsTransformation t (first_transformation t k) x.transformation

-- ---- the whole

abbrev pub DescribesSet : List Node → Option ℕ → ParameterSet → Type 0
DescribesSet t at set = AllZip (IsParameter t) (parameters t at) set.parameters

abbrev pub DescribesMapping : List Node → Option ℕ → Mapping → Type 0
DescribesMapping t at mapping = AllZip (IsEntry t) (entries t at) mapping.entries
