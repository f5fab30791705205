-- The rules of a system structure description (SSP 1.0: SystemStructure.ssd), each a statement about one tree and one of its elements.
use Rattle.std.specs.Prelude.{◌≡◌, ◌≢◌, ◌⊎◌, ℕ, ◌+◌, ◌-◌, ◌^◌, ◌<◌, Bool, true, false, if◌then◌else◌, List, Option, Some, None, IsSome, Contains, option_and_then, slice_get, length, count_by, codes, bytes_eq}
use Rattle.std.specs.Option.{option_map_or}
use Rattle.doc_grammar.specs.Nodes.{Node}
use Rattle.doc_tree.specs.declared.rule.SystemRule.{SystemRule}
use Rattle.doc_tree.specs.declared.rule.SystemRule.TheVariants as r
use Rattle.doc_tree.specs.Rules.{system_number}
use Rattle.doc_tables.specs.Elements.{name_of, is_named, attribute, children, Lacks, LacksText}
use Rattle.doc_tables.specs.Tables.{IsRepeated}
use Rattle.doc_tables.specs.Violations as all
use Rattle.ssd_tree.specs.declared.tree.NestedKind.{NestedKind}
use Rattle.ssd_tree.specs.declared.tree.NestedKind.TheVariants as nested
use Rattle.ssd_tree.specs.declared.tree.Setting.{Setting}
use Rattle.ssd_tree.specs.Elements.{has_child, IsSystem, IsComponent, IsPart, IsConnector, IsConnection, IsBinding, IsMappingOf, IsOfSystem, element_key, connector_key, kind_of}
use Rattle.ssd_tree.specs.Listings.{IsListing}
use Rattle.ssd_tree.specs.Parts.{IsFullName}
use Rattle.ssd_tree.specs.Sources.{is_path}
use Rattle.ssd_tree.specs.Ends.{IsStart, IsStop, start_kind, end_kind}
use Rattle.doc_tables.specs.Documents.{has_version, is_transformation}
use Rattle.transformations.specs.Changes.{IsMisread}

-- ---- the root

abbrev pub system_count : List Node → ℕ → ℕ
system_count t k = count_by (λ c. is_named t c (codes "System")) (children t k)

abbrev pub IsOtherStructure : List Node → ℕ → Type 0
IsOtherStructure t k =
    (is_named t k (codes "SystemStructureDescription") ≡ false) ⊎
    ((has_version t k ≡ false) ⊎ (system_count t k ≢ 1))

-- ---- types

-- the type that is given, or this one where none is
abbrev pub is_of_type : List Node → ℕ → List ℕ → Bool
is_of_type t k wanted =
    option_map_or (λ text. bytes_eq text wanted) (attribute t k (codes "type")) true

-- ---- Components that are systems of their own (SSP 1.0, Component: type)

abbrev pub nested_kind : List ℕ → Option NestedKind
nested_kind text =
    if bytes_eq text (codes "application/x-ssp-package") then Some nested.Package
    else if bytes_eq text (codes "application/x-ssp-definition") then Some nested.Definition
    else None

-- the kind of a Component that may be a system of its own, where it is one
abbrev pub kind_in : Setting → List Node → ℕ → Option NestedKind
kind_in s t k =
    if s.nests then option_and_then nested_kind (attribute t k (codes "type")) else None

-- a Component that is none is an FMU
abbrev pub IsFmu : Setting → List Node → ℕ → Type 0
IsFmu s t k = IsComponent t k × (kind_in s t k ≡ None)

abbrev pub IsNested : Setting → List Node → ℕ → Type 0
IsNested s t k = IsComponent t k × IsSome (kind_in s t k)

abbrev pub HasOtherType : Setting → List Node → ℕ → Type 0
HasOtherType s t k =
    (IsFmu s t k × (is_of_type t k (codes "application/x-fmu-sharedlibrary") ≡ false))
    ⊎ (IsBinding t k × (is_of_type t k (codes "application/x-ssp-parameter-set") ≡ false))

-- ---- sources

-- its `source` is no path
abbrev pub HasNoPath : List Node → ℕ → Type 0
HasNoPath t k =
    (source : List ℕ) × (attribute t k (codes "source") ≡ Some source) × (is_path source ≡ false)

-- its `source` is to be read below a component, and the binding is that of a System
abbrev pub ReadsBelowSystem : List Node → ℕ → ℕ → Type 0
ReadsBelowSystem t k binding =
    (attribute t k (codes "source") ≢ None) ×
    (attribute t k (codes "sourceBase") ≡ Some (codes "component")) ×
    IsOfSystem t binding (codes "ParameterBindings")

abbrev pub ComponentHasNoSource : List Node → ℕ → Type 0
ComponentHasNoSource t k = IsComponent t k × HasNoPath t k

abbrev pub BindingHasNoSource : List Node → ℕ → Type 0
BindingHasNoSource t k = IsBinding t k × (HasNoPath t k ⊎ ReadsBelowSystem t k k)

abbrev pub MappingHasNoSource : List Node → ℕ → Type 0
MappingHasNoSource t k =
    (binding : ℕ) × IsMappingOf t k binding × (HasNoPath t k ⊎ ReadsBelowSystem t k binding)

abbrev pub HasNoSource : List Node → ℕ → Type 0
HasNoSource t k = ComponentHasNoSource t k ⊎ (BindingHasNoSource t k ⊎ MappingHasNoSource t k)

-- ---- what is required

abbrev pub IsIncompleteRoot : List Node → ℕ → Type 0
IsIncompleteRoot t k = (k ≡ 0) × LacksText t k (codes "name")

abbrev pub IsIncompleteSystem : List Node → ℕ → Type 0
IsIncompleteSystem t k = IsSystem t k × LacksText t k (codes "name")

abbrev pub IsIncompleteComponent : List Node → ℕ → Type 0
IsIncompleteComponent t k =
    IsComponent t k × (LacksText t k (codes "name") ⊎ Lacks t k (codes "source"))

-- its kind is absent or another, or a connector before it has its name
abbrev pub IsIncompleteConnector : List Node → ℕ → Type 0
IsIncompleteConnector t k =
    IsConnector t k × (LacksText t k (codes "name") ⊎
    ((kind_of t k ≡ None) ⊎ IsRepeated (connector_key t) k))

abbrev pub IsIncompleteConnection : List Node → ℕ → Type 0
IsIncompleteConnection t k =
    IsConnection t k × (Lacks t k (codes "startConnector") ⊎ Lacks t k (codes "endConnector"))

-- it has neither a file of values nor values of its own
abbrev pub IsIncompleteBinding : List Node → ℕ → Type 0
IsIncompleteBinding t k =
    IsBinding t k × Lacks t k (codes "source") × (has_child t k (codes "ParameterValues") ≡ false)

abbrev pub IsIncompletePart : List Node → ℕ → Type 0
IsIncompletePart t k = IsIncompleteRoot t k ⊎ (IsIncompleteSystem t k ⊎ IsIncompleteComponent t k)

-- an entry of a part's lists
abbrev pub IsIncompleteEntry : List Node → ℕ → Type 0
IsIncompleteEntry t k =
    IsIncompleteConnector t k ⊎ (IsIncompleteConnection t k ⊎ IsIncompleteBinding t k)

abbrev pub IsIncomplete : List Node → ℕ → Type 0
IsIncomplete t k = IsIncompletePart t k ⊎ IsIncompleteEntry t k

-- ---- connections

-- it is a transformation that doesn't read
abbrev pub IsMisreadChange : List Node → ℕ → Type 0
IsMisreadChange t c = (is_transformation (name_of t c) ≡ true) × IsMisread t c

-- one of its transformations, be it the first or another, doesn't read
abbrev pub HasMisread : List Node → ℕ → Type 0
HasMisread t k = (c : ℕ) × Contains (children t k) c × IsMisreadChange t c

abbrev pub HasNoStart : List Node → ℕ → Type 0
HasNoStart t k = (c : ℕ) → IsStart t k c → ⊥

abbrev pub HasNoStop : List Node → ℕ → Type 0
HasNoStop t k = (c : ℕ) → IsStop t k c → ⊥

abbrev pub StartsWrong : List Node → ℕ → Type 0
StartsWrong t k =
    (c : ℕ) × IsStart t k c × (kind_of t c ≢
    Some (start_kind (attribute t k (codes "startElement"))))

abbrev pub StopsWrong : List Node → ℕ → Type 0
StopsWrong t k =
    (c : ℕ) × IsStop t k c × (kind_of t c ≢ Some (end_kind (attribute t k (codes "endElement"))))

abbrev pub HasNoEnd : List Node → ℕ → Type 0
HasNoEnd t k = HasNoStart t k ⊎ HasNoStop t k

abbrev pub HasWrongEnd : List Node → ℕ → Type 0
HasWrongEnd t k = StartsWrong t k ⊎ StopsWrong t k

-- ---- the rules

-- with the FMUs before the document it is the 257th
abbrev pub IsTooMany : Setting → List Node → ℕ → Type 0
IsTooMany s t k =
    (all : List ℕ) × IsListing (IsFmu s t) all × (slice_get all (256 - s.fmus) ≡ Some k)

-- with what stands before it, its full name has more than 2^24 bytes
abbrev pub IsTooLong : Setting → List Node → ℕ → Type 0
IsTooLong s t k =
    IsComponent t k × ((name : List ℕ) × IsFullName t k name ×
    (2 ^ 24 < s.name_above + length name))

-- the element breaks the rule
abbrev pub ViolatesStructure : Setting → List Node → SystemRule → ℕ → Type 0
-- 30: the root is no SystemStructureDescription of version 1.0, or has not just one System
ViolatesStructure s t r.Structure k = (k ≡ 0) × IsOtherStructure t k
-- 31: an element before it, in the same System, has its name
ViolatesStructure s t r.ElementTwice k = IsPart t k × IsRepeated (element_key t) k
-- 32: a component is an FMU or, where that is allowed, a system of its own; and a binding binds a parameter set
ViolatesStructure s t r.OtherType k = HasOtherType s t k
-- 33: a source is a path below the description's folder or, at a component, below the component's
ViolatesStructure s t r.NoSource k = HasNoSource t k
-- 34: Model Exchange is unsupported
ViolatesStructure s t r.ModelExchange k =
    IsFmu s t k × (attribute t k (codes "implementation") ≡ Some (codes "ModelExchange"))
-- 35: something required is absent; two connectors of a part have one name; a kind is none of this profile
ViolatesStructure s t r.Incomplete k = IsIncomplete t k
-- 36: the factor, the offset or an entry of a transformation doesn't read, or it maps enumerations, which are unsupported
ViolatesStructure s t r.Transformation k = IsConnection t k × HasMisread t k
-- 37: an end names no element or no connector
ViolatesStructure s t r.NoEnd k = IsConnection t k × HasNoEnd t k
-- 38: it begins or ends at a connector of another kind
ViolatesStructure s t r.WrongEnd k = IsConnection t k × HasWrongEnd t k
-- 48: a system has at most 256 FMUs, and full names of at most 2^24 bytes
ViolatesStructure s t r.TooManyComponents k = IsTooMany s t k ⊎ IsTooLong s t k

-- the first violation: at the first element that breaks a rule, the one of the least number
abbrev pub IsFirstStructureViolation : Setting → List Node → ℕ → SystemRule → Type 0
IsFirstStructureViolation s t k rule = all.IsFirstViolation system_number (ViolatesStructure s t) k rule

-- no element breaks a rule
abbrev pub IsSoundIn : Setting → List Node → Type 0
IsSoundIn s t = all.HasNoViolation (ViolatesStructure s t)

-- in some setting no element breaks a rule
abbrev pub IsSoundStructure : List Node → Type 0
IsSoundStructure t = (s : Setting) × IsSoundIn s t

-- the setting of a system in one document
abbrev pub alone : Setting
alone = record { nests = false; fmus = 0; name_above = 0 }
