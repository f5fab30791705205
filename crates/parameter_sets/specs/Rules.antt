-- The rules of sets of parameter values and of mappings (SSP 1.0: SSV, SSM), each a statement about one tree, the place where the set or the mapping begins, and one element.
use Rattle.std.specs.Prelude.{◌≡◌, ◌≢◌, ◌⊎◌, ℕ, false, List, [], ◌∷◌, length, Option, Contains, codes}
use Rattle.parameter_values.specs.declared.set.ParameterValue.{ParameterValue}
use Rattle.doc_grammar.specs.Nodes.{Node}
use Rattle.doc_tree.specs.declared.rule.ParameterRule.{ParameterRule}
use Rattle.doc_tree.specs.declared.rule.ParameterRule.TheVariants as r
use Rattle.doc_tree.specs.Rules.{parameter_number}
use Rattle.doc_tables.specs.Elements.{Lacks}
use Rattle.doc_tables.specs.Violations as all
use Rattle.parameter_sets.specs.declared.part.Part.{Part}
use Rattle.parameter_sets.specs.declared.part.Part.TheVariants as part
use Rattle.parameter_sets.specs.Elements.{entries, first_value, mappings, parameters, seat, sets, transformations}
use Rattle.parameter_sets.specs.Sets.{IsValue}
use Rattle.transformations.specs.Changes.{IsMisread}
use Rattle.doc_tables.specs.Documents.{has_version}

-- ---- where it begins

-- there isn't just one, or the one isn't of version 1.0
abbrev pub IsOtherStructure : List Node → List ℕ → Option ℕ → ℕ → Type 0
IsOtherStructure t found at k =
    ((length found ≢ 1) × (k ≡ seat at)) ⊎ ((found ≡ k ∷ []) × (has_version t k ≡ false))

-- ---- parts

-- it has no name, or its value doesn't read as its type
abbrev pub IsIncompleteParameter : List Node → ℕ → Type 0
IsIncompleteParameter t k =
    Lacks t k (codes "name") ⊎ ((x : ParameterValue) → IsValue t (first_value t k) x → ⊥)

-- it has no source or no target
abbrev pub IsIncompleteEntry : List Node → ℕ → Type 0
IsIncompleteEntry t k = Lacks t k (codes "source") ⊎ Lacks t k (codes "target")

-- the element breaks the rule of such a part
abbrev pub IsBroken : List Node → Part → ℕ → Type 0
IsBroken t part.Parameter k = IsIncompleteParameter t k
IsBroken t part.Entry k = IsIncompleteEntry t k
IsBroken t part.Transformation k = IsMisread t k

-- it is one of these elements, and breaks the rule
abbrev pub IsBrokenAmong : List Node → Part → List ℕ → ℕ → Type 0
IsBrokenAmong t kind nodes k = Contains nodes k × IsBroken t kind k

-- ---- the rules

-- the element of a set breaks the rule; those about the parameters that a value reaches aren't tested here
abbrev pub SetViolates : List Node → Option ℕ → ParameterRule → ℕ → Type 0
-- 50: there isn't just one ParameterSet, of version 1.0
SetViolates t at r.Structure k = IsOtherStructure t (sets t at) at k
-- 51: a Parameter lacks its name, or an Integer or Boolean its value, or a value doesn't read
SetViolates t at r.Incomplete k = IsBrokenAmong t part.Parameter (parameters t at) k
SetViolates t at r.OtherClass k = ⊥
SetViolates t at r.OutOfRange k = ⊥
SetViolates t at r.Transformation k = ⊥
SetViolates t at r.NoMapEntry k = ⊥
SetViolates t at r.NamesTwo k = ⊥

-- the element of a mapping breaks the rule
abbrev pub MappingViolates : List Node → Option ℕ → ParameterRule → ℕ → Type 0
-- 50: there isn't just one ParameterMapping, of version 1.0
MappingViolates t at r.Structure k = IsOtherStructure t (mappings t at) at k
-- 51: a MappingEntry lacks its source or its target
MappingViolates t at r.Incomplete k = IsBrokenAmong t part.Entry (entries t at) k
MappingViolates t at r.OtherClass k = ⊥
MappingViolates t at r.OutOfRange k = ⊥
-- 54: a transformation, of an entry's not the first alone, doesn't read or is unsupported
MappingViolates t at r.Transformation k =
    IsBrokenAmong t part.Transformation (transformations t at) k
MappingViolates t at r.NoMapEntry k = ⊥
MappingViolates t at r.NamesTwo k = ⊥

-- ---- the first violation: at the first element that breaks a rule, the one of the least number

abbrev pub IsFirstInSet : List Node → Option ℕ → ℕ → ParameterRule → Type 0
IsFirstInSet t at k rule = all.IsFirstViolation parameter_number (SetViolates t at) k rule

abbrev pub IsFirstInMapping : List Node → Option ℕ → ℕ → ParameterRule → Type 0
IsFirstInMapping t at k rule = all.IsFirstViolation parameter_number (MappingViolates t at) k rule

-- no element breaks a rule
abbrev pub IsSoundSet : List Node → Option ℕ → Type 0
IsSoundSet t at = all.HasNoViolation (SetViolates t at)

abbrev pub IsSoundMapping : List Node → Option ℕ → Type 0
IsSoundMapping t at = all.HasNoViolation (MappingViolates t at)
