-- The elements of a system structure description, and what each is for (SSP 1.0: SystemStructureDescription, System, Component).
-- A tree is the list of its elements in document order; an element is named by its place.
use Rattle.std.specs.Prelude.{◌≡◌, ◌⊎◌, ℕ, Bool, true, ◌||◌, List, [], ◌∷◌, Option, Some, None, option_and_then, find, codes, bytes_eq, if◌then◌else◌}
use Rattle.std.specs.List.{list_any}
use Rattle.doc_grammar.specs.Nodes.{Node}
use Rattle.doc_tables.specs.Elements.{name_of, is_named, attribute, children, parent, key_if, unless_empty}
use Rattle.doc_tables.specs.Tables.{IsRepeated}
use Rattle.ssd_tree.specs.declared.tree.ConnectorKind.{ConnectorKind}
use Rattle.ssd_tree.specs.declared.tree.ConnectorKind.TheVariants as kind
use Rattle.ssd_tree.specs.declared.tree.TypeChild.{TypeChild}
use Rattle.ssd_tree.specs.declared.tree.TypeChild.TheVariants as child

-- ---- what stands in what

abbrev pub has_child : List Node → ℕ → List ℕ → Bool
has_child t k name = list_any (λ c. is_named t c name) (children t k)

-- of several elements of a name that stand directly in this one the first counts
abbrev pub first_child : List Node → ℕ → List ℕ → Option ℕ
first_child t k name = find (λ c. is_named t c name) (children t k)

-- the element whose list of this name this one stands in
abbrev pub holder : List Node → ℕ → List ℕ → Option ℕ
holder t k list = option_and_then (λ l. key_if (is_named t l list) (parent t l)) (parent t k)

-- ---- sorts of elements

-- the System in the root, and those among the Elements of a System
pub data IsSystem (t : List Node) : ℕ → Type 0 where
  Outermost : (k : ℕ) → is_named t k (codes "System") ≡ true → parent t k ≡ Some 0 → IsSystem t k
  Inner : (k outer : ℕ) → is_named t k (codes "System") ≡ true →
      holder t k (codes "Elements") ≡ Some outer → IsSystem t outer → IsSystem t k

-- a Component stands among the Elements of a System
abbrev pub IsComponent : List Node → ℕ → Type 0
IsComponent t k =
    (is_named t k (codes "Component") ≡ true) ×
    ((system : ℕ) × (holder t k (codes "Elements") ≡ Some system) × IsSystem t system)

-- a System or a Component: it may have connectors and parameter bindings
abbrev pub IsPart : List Node → ℕ → Type 0
IsPart t k = IsSystem t k ⊎ IsComponent t k

-- it stands in this list of a part
abbrev pub IsOfPart : List Node → ℕ → List ℕ → Type 0
IsOfPart t k list = (part : ℕ) × (holder t k list ≡ Some part) × IsPart t part

-- it stands in this list of a System
abbrev pub IsOfSystem : List Node → ℕ → List ℕ → Type 0
IsOfSystem t k list = (system : ℕ) × (holder t k list ≡ Some system) × IsSystem t system

abbrev pub IsConnector : List Node → ℕ → Type 0
IsConnector t k = (is_named t k (codes "Connector") ≡ true) × IsOfPart t k (codes "Connectors")

abbrev pub IsConnection : List Node → ℕ → Type 0
IsConnection t k = (is_named t k (codes "Connection") ≡ true) × IsOfSystem t k (codes "Connections")

abbrev pub IsBinding : List Node → ℕ → Type 0
IsBinding t k =
    (is_named t k (codes "ParameterBinding") ≡ true) × IsOfPart t k (codes "ParameterBindings")

-- ---- keys, by which elements are found

-- a scope and a name, where there are both
abbrev pub both : Option ℕ → Option (List ℕ) → Option (ℕ × List ℕ)
both None name = None
both (Some scope) None = None
both (Some scope) (Some name) = Some (scope, name)

-- the name of a System or Component, in its System
abbrev pub element_key : List Node → ℕ → Option (ℕ × List ℕ)
element_key t k =
    key_if (is_named t k (codes "System") || is_named t k (codes "Component"))
    (both (holder t k (codes "Elements")) (unless_empty (attribute t k (codes "name"))))

-- the name of a connector, in its part
abbrev pub connector_key : List Node → ℕ → Option (ℕ × List ℕ)
connector_key t k =
    key_if (is_named t k (codes "Connector"))
    (both (holder t k (codes "Connectors")) (unless_empty (attribute t k (codes "name"))))

-- a ParameterMapping, in the element that it stands in
abbrev pub mapping_key : List Node → ℕ → Option (ℕ × List ℕ)
mapping_key t k =
    key_if (is_named t k (codes "ParameterMapping"))
    (both (parent t k) (Some (codes "ParameterMapping")))

-- of several ParameterMappings of a binding the first counts
abbrev pub IsMappingOf : List Node → ℕ → ℕ → Type 0
IsMappingOf t k binding =
    (is_named t k (codes "ParameterMapping") ≡ true) × (parent t k ≡ Some binding) ×
    IsBinding t binding × (IsRepeated (mapping_key t) k → ⊥)

-- ---- what connectors say (SSP 1.0: Connector)

abbrev pub connector_kind : List ℕ → Option ConnectorKind
connector_kind text =
    if bytes_eq text (codes "input") then Some kind.Input
    else if bytes_eq text (codes "output") then Some kind.Output
    else if bytes_eq text (codes "parameter") then Some kind.Parameter
    else if bytes_eq text (codes "calculatedParameter") then Some kind.CalculatedParameter
    else None

abbrev pub kind_of : List Node → ℕ → Option ConnectorKind
kind_of t k = option_and_then connector_kind (attribute t k (codes "kind"))

-- the type that an element of this name gives to the connector that it stands in
abbrev pub type_child : List ℕ → Option TypeChild
type_child name =
    if bytes_eq name (codes "Integer") then Some child.Integer
    else if bytes_eq name (codes "Boolean") then Some child.Boolean
    else if bytes_eq name (codes "Enumeration") then Some child.Enumeration
    else if (bytes_eq name (codes "Real") || bytes_eq name (codes "String")) ||
    bytes_eq name (codes "Binary") then Some child.Other
    else None

-- the first of two, where it is there
abbrev pub or_else : Option TypeChild → Option TypeChild → Option TypeChild
or_else None more = more
or_else (Some x) more = Some x

-- of several types of a connector the first counts
abbrev pub first_type : List Node → List ℕ → Option TypeChild
first_type t [] = None
first_type t (c ∷ cs) = or_else (type_child (name_of t c)) (first_type t cs)

abbrev pub type_of : List Node → ℕ → Option TypeChild
type_of t k = first_type t (children t k)
