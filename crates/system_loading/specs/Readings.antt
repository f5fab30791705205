-- What the bytes of a file say, or the rule that they break first.
use Rattle.std.specs.Prelude.{◌≡◌, ℕ, List, Option, Some, None}
use Rattle.value_types.specs.declared.shape.Shape.{Shape}
use Rattle.doc_grammar.specs.declared.reasons.Rule as d
use Rattle.doc_grammar.specs.Faults.{IsFault}
use Rattle.doc_grammar.specs.Nodes.{Node, Denotes}
use Rattle.doc_tree.specs.Path.{path_to}
use Rattle.doc_tree.specs.declared.place.Place.{Place}
use Rattle.doc_tree.specs.declared.place.Place.TheVariants.{Byte, Element}
use Rattle.doc_tree.specs.declared.rule.DescriptionRule.{DescriptionRule}
use Rattle.doc_tree.specs.declared.rule.ParameterRule.{ParameterRule}
use Rattle.doc_tree.specs.declared.rule.Rule.{Rule}
use Rattle.doc_tree.specs.declared.rule.Rule.TheVariants.{Document, Description, Parameters}
use Rattle.fmu_description.specs.Rules as model
use Rattle.fmu_description.specs.Description as model_says
use Rattle.parameter_sets.specs.Rules.{IsFirstInMapping, IsFirstInSet, IsSoundMapping, IsSoundSet}
use Rattle.parameter_sets.specs.Sets.{DescribesMapping, DescribesSet}
use Rattle.system_loading.specs.declared.outline.Outline.{Outline}
use Rattle.system_loading.specs.declared.parameters.GivenMapping.{GivenMapping}
use Rattle.system_loading.specs.declared.parameters.GivenSet.{GivenSet}
use Rattle.system_loading.specs.Outlines.{element_in}

-- ---- any file

-- the bytes are a document without violation that says this
pub record SaysBy {A : Type 0} (IsSound : List Node → Type 0) (Describes : List Node → A → Type 0)
    (bytes : List ℕ) (said : A) : Type 0 where
  pub document : List Node
  pub denotes : Denotes bytes document
  pub sound : IsSound document
  pub describes : Describes document said

-- the rule that bytes break first, and its place
pub data BreaksBy {R : Type 0} (rule_of : R → Rule) (IsFirst : List Node → ℕ → R → Type 0)
    (bytes : List ℕ) : Rule → Place → Type 0 where
  -- they are no document, at a byte
  ByDocument : (why : d.Rule) (byte : ℕ) (rule : Rule) (place : Place) → IsFault bytes why byte →
      rule ≡ Document why → place ≡ Byte byte →
      BreaksBy rule_of IsFirst bytes rule place
  -- an element breaks it
  ByElement : (document : List Node) (element : ℕ) (broken : R) (rule : Rule) (place : Place) →
      Denotes bytes document → IsFirst document element broken →
      rule ≡ rule_of broken → place ≡ Element (path_to document element) →
      BreaksBy rule_of IsFirst bytes rule place

-- this is said and nothing else, and no rule is broken
pub record SaysAlone {A : Type 0} (Says : A → Type 0) (Breaks : Rule → Place → Type 0)
    (said : A) : Type 0 where
  pub is : Says said
  pub only : (other : A) → Says other → said ≡ other
  pub none : (rule : Rule) (place : Place) → Breaks rule place → ⊥

-- this rule is broken first, at this place and no other, and nothing is said
pub record BreaksAlone {A : Type 0} (Says : A → Type 0) (Breaks : Rule → Place → Type 0)
    (rule : Rule) (place : Place) : Type 0 where
  pub broken : Breaks rule place
  pub only : (other : Rule) (at : Place) → Breaks other at → (rule ≡ other) × (place ≡ at)
  pub none : (said : A) → Says said → ⊥

-- ---- a model description (FMI 3.0, 2.4)

-- the bytes are a description of an FMU of this shape, where a second has so many counts
abbrev pub IsModel : ℕ → List ℕ → Shape → Type 0
IsModel per_second bytes shape =
    SaysBy (λ t. model.IsSoundDescription t per_second) (λ t s.
    model_says.Describes t per_second s) bytes shape

abbrev pub BreaksModel : ℕ → List ℕ → Rule → Place → Type 0
BreaksModel per_second bytes rule place =
    BreaksBy (λ (r : DescriptionRule). Description r) (λ t k r.
    model.IsFirstDescriptionViolation t per_second k r) bytes rule place

-- ---- a set of parameter values, and a mapping of parameters (SSP 1.0, SSV and SSM)

-- the document gives this set
abbrev pub IsSetOf : List Node → GivenSet → Type 0
IsSetOf t given = (given.document ≡ Some t) × DescribesSet t None given.set

-- the bytes are this set
abbrev pub IsValues : List ℕ → GivenSet → Type 0
IsValues bytes given = SaysBy (λ t. IsSoundSet t None) IsSetOf bytes given

abbrev pub BreaksValues : List ℕ → Rule → Place → Type 0
BreaksValues bytes rule place =
    BreaksBy (λ (r : ParameterRule). Parameters r) (λ t k r.
    IsFirstInSet t None k r) bytes rule place

-- the same of a mapping
abbrev pub IsMappingOf : List Node → GivenMapping → Type 0
IsMappingOf t given = (given.document ≡ Some t) × DescribesMapping t None given.mapping

abbrev pub IsMapping : List ℕ → GivenMapping → Type 0
IsMapping bytes given = SaysBy (λ t. IsSoundMapping t None) IsMappingOf bytes given

abbrev pub BreaksMapping : List ℕ → Rule → Place → Type 0
BreaksMapping bytes rule place =
    BreaksBy (λ (r : ParameterRule). Parameters r) (λ t k r.
    IsFirstInMapping t None k r) bytes rule place

-- ---- the same within an element of one of the outline's documents

-- the element's document has this within it
pub record SaysWithin {A : Type 0} (IsSound : List Node → Option ℕ → Type 0)
    (Describes : List Node → Option ℕ → A → Type 0) (outline : Outline) (holder : ℕ)
    (said : A) : Type 0 where
  pub document : List Node
  pub node : ℕ
  pub is : element_in outline holder ≡ Some (document, node)
  pub sound : IsSound document (Some node)
  pub describes : Describes document (Some node) said

-- the rule that what is within the element breaks first, and its place
pub record BreaksWithin (IsFirst : List Node → Option ℕ → ℕ → ParameterRule → Type 0)
    (outline : Outline) (holder : ℕ) (rule : Rule) (place : Place) : Type 0 where
  pub document : List Node
  pub node : ℕ
  pub is : element_in outline holder ≡ Some (document, node)
  pub element : ℕ
  pub broken : ParameterRule
  pub first : IsFirst document (Some node) element broken
  pub rule_is : rule ≡ Parameters broken
  pub place_is : place ≡ Element (path_to document element)

abbrev pub IsSetIn : List Node → Option ℕ → GivenSet → Type 0
IsSetIn t at given = (given.document ≡ None) × DescribesSet t at given.set

abbrev pub IsMappingIn : List Node → Option ℕ → GivenMapping → Type 0
IsMappingIn t at given = (given.document ≡ None) × DescribesMapping t at given.mapping

abbrev pub IsValuesWithin : Outline → ℕ → GivenSet → Type 0
IsValuesWithin outline holder given = SaysWithin IsSoundSet IsSetIn outline holder given

abbrev pub BreaksValuesWithin : Outline → ℕ → Rule → Place → Type 0
BreaksValuesWithin outline holder rule place = BreaksWithin IsFirstInSet outline holder rule place

abbrev pub IsMappingWithin : Outline → ℕ → GivenMapping → Type 0
IsMappingWithin outline holder given = SaysWithin IsSoundMapping IsMappingIn outline holder given

abbrev pub BreaksMappingWithin : Outline → ℕ → Rule → Place → Type 0
BreaksMappingWithin outline holder rule place =
    BreaksWithin IsFirstInMapping outline holder rule place
