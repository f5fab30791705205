-- What a system structure description says (SSP 1.0): the tree of systems that it denotes.
use Rattle.std.specs.Prelude.{◌≡◌, ℕ, false, List, ◌∷◌, ◌++◌, All, Option, Some, None, IfSome, slice_get, codes, bytes_eq, if◌then◌else◌}
use Rattle.std.specs.List.{AllZip}
use Rattle.std.specs.Option.{option_map_or}
use Rattle.sim_base.specs.Path.{plain_path}
use Rattle.doc_grammar.specs.Nodes.{Node}
use Rattle.doc_tables.specs.Elements.{attribute, parent, text_of, Lacks}
use Rattle.ssd_tree.specs.declared.tree.Owner.{Owner}
use Rattle.ssd_tree.specs.declared.tree.Owner.TheVariants.{System, Component}
use Rattle.ssd_tree.specs.declared.tree.SystemPart.{SystemPart}
use Rattle.ssd_tree.specs.declared.tree.ComponentPart.{ComponentPart}
use Rattle.ssd_tree.specs.declared.tree.Connector.{Connector}
use Rattle.ssd_tree.specs.declared.tree.Connection.{Connection}
use Rattle.ssd_tree.specs.declared.tree.Binding.{Binding}
use Rattle.ssd_tree.specs.declared.tree.Origin.{Origin}
use Rattle.ssd_tree.specs.declared.tree.Origin.TheVariants.{File, Inline}
use Rattle.ssd_tree.specs.declared.tree.SourceBase.{SourceBase}
use Rattle.ssd_tree.specs.declared.tree.SourceBase.TheVariants as base
use Rattle.ssd_tree.specs.declared.tree.SystemTree.{SystemTree}
use Rattle.ssd_tree.specs.Elements.{first_child, holder, IsSystem, IsComponent, IsConnector, IsConnection, IsBinding, IsMappingOf, kind_of, type_of}
use Rattle.ssd_tree.specs.Listings.{IsListing}
use Rattle.ssd_tree.specs.Ends.{IsStart, IsStop}
use Rattle.ssd_tree.specs.Sources.{LeadsDown}
use Rattle.parameter_values.specs.declared.change.Change.{Change}
use Rattle.transformations.specs.Changes.{IsChange}
use Rattle.transformations.specs.Elements.{first_transformation}

-- the elements of each sort, in document order
pub record PartNodes : Type 0 where
  pub systems : List ℕ
  pub components : List ℕ
  pub connectors : List ℕ
  pub connections : List ℕ
  pub bindings : List ℕ

pub record ListsParts (t : List Node) (nodes : PartNodes) : Type 0 where
  pub systems : IsListing (IsSystem t) nodes.systems
  pub components : IsListing (IsComponent t) nodes.components
  pub connectors : IsListing (IsConnector t) nodes.connectors
  pub connections : IsListing (IsConnection t) nodes.connections
  pub bindings : IsListing (IsBinding t) nodes.bindings

-- ---- names and numbers

-- the element names below the outermost System, joined with dots
pub data IsFullName (t : List Node) : ℕ → List ℕ → Type 0 where
  InOutermost : (k outer : ℕ) (name : List ℕ) → holder t k (codes "Elements") ≡ Some outer →
      parent t outer ≡ Some 0 →
      attribute t k (codes "name") ≡ Some name → IsFullName t k name
  InInner : (k system outer : ℕ) (above name : List ℕ) →
      holder t k (codes "Elements") ≡ Some system →
      holder t system (codes "Elements") ≡ Some outer →
      IsFullName t system above → attribute t k (codes "name") ≡ Some name →
      IsFullName t k (above ++ 46 ∷ name)

-- the place is that of the element in a list; there is none where there is no element
abbrev pub IsPlaceOf : List ℕ → Option ℕ → Option ℕ → Type 0
IsPlaceOf nodes None None = Unit {0}
IsPlaceOf nodes None (Some node) = ⊥
IsPlaceOf nodes (Some place) None = ⊥
IsPlaceOf nodes (Some place) (Some node) = slice_get nodes place ≡ Some node

-- the element of a System or Component, by its place
abbrev pub owner_node : PartNodes → Owner → Option ℕ
owner_node nodes (System place) = slice_get nodes.systems place
owner_node nodes (Component place) = slice_get nodes.components place

-- its `source`, without the segments that lead nowhere
abbrev pub HasPath : List Node → ℕ → List ℕ → Type 0
HasPath t k path =
    (source : List ℕ) × (attribute t k (codes "source") ≡ Some source) × (path ≡ plain_path source)

-- it has no segment that leads nowhere
abbrev pub IsPlain : List ℕ → Type 0
IsPlain path = path ≡ plain_path path

-- ---- where values and mappings of parameters are given (SSP 1.0: ParameterBinding, ParameterMapping; source, sourceBase)

-- below the component's folder where `sourceBase` is `component`, and else below the description's
abbrev pub base_of : Option (List ℕ) → SourceBase
base_of sort =
    if option_map_or (λ text. bytes_eq text (codes "component")) sort false then base.Component
    else base.Description

-- in the file that the element's `source` names; where it has none, within this one
abbrev pub IsOrigin : List Node → ℕ → Option ℕ → Origin → Type 0
IsOrigin t k inner (File base path) =
    HasPath t k path × (base ≡ base_of (attribute t k (codes "sourceBase")))
IsOrigin t k inner (Inline node) = Lacks t k (codes "source") × (inner ≡ Some node)

-- the values of a binding, in a file or in its first ParameterValues
abbrev pub IsValuesOrigin : List Node → ℕ → Origin → Type 0
IsValuesOrigin t k origin = IsOrigin t k (first_child t k (codes "ParameterValues")) origin

-- the mapping of a binding, by its first ParameterMapping: in a file or in that element
abbrev pub IsMappingOrigin : List Node → ℕ → Option Origin → Type 0
IsMappingOrigin t k None = (m : ℕ) → IsMappingOf t m k → ⊥
IsMappingOrigin t k (Some origin) = (m : ℕ) × IsMappingOf t m k × IsOrigin t m (Some m) origin

-- ---- parts

pub record IsSystemPart (t : List Node) (nodes : PartNodes) (k : ℕ) (x : SystemPart) : Type 0 where
  pub node : x.node ≡ k
  pub outer : IsPlaceOf nodes.systems x.parent (holder t k (codes "Elements"))
  pub name : attribute t k (codes "name") ≡ Some x.name

pub record IsComponentPart (t : List Node) (nodes : PartNodes) (k : ℕ)
    (x : ComponentPart) : Type 0 where
  pub node : x.node ≡ k
  pub system : IsPlaceOf nodes.systems (Some x.system) (holder t k (codes "Elements"))
  pub name : IsFullName t k x.name
  pub source : HasPath t k x.source

pub record IsConnectorPart (t : List Node) (nodes : PartNodes) (k : ℕ)
    (x : Connector) : Type 0 where
  pub node : x.node ≡ k
  pub part : ℕ
  pub of : holder t k (codes "Connectors") ≡ Some part
  pub owner : owner_node nodes x.owner ≡ Some part
  pub name : attribute t k (codes "name") ≡ Some x.name
  pub kind : kind_of t k ≡ Some x.kind
  pub child : x.child ≡ type_of t k

-- the change is that of the transformation, and there is none where there is no transformation
abbrev pub IsChangeBy : List Node → Option ℕ → Option Change → Type 0
IsChangeBy t None None = Unit {0}
IsChangeBy t None (Some x) = ⊥
IsChangeBy t (Some k) None = ⊥
IsChangeBy t (Some k) (Some x) = IsChange t k x

pub record IsConnectionPart (t : List Node) (nodes : PartNodes) (k : ℕ)
    (x : Connection) : Type 0 where
  pub node : x.node ≡ k
  pub from : ℕ
  pub is_from : IsStart t k from
  pub start : slice_get nodes.connectors x.start ≡ Some from
  pub to : ℕ
  pub is_to : IsStop t k to
  pub end : slice_get nodes.connectors x.end ≡ Some to
  pub change : IsChangeBy t (first_transformation t k) x.change

pub record IsBindingPart (t : List Node) (nodes : PartNodes) (k : ℕ) (x : Binding) : Type 0 where
  pub node : x.node ≡ k
  pub part : ℕ
  pub of : holder t k (codes "ParameterBindings") ≡ Some part
  pub owner : owner_node nodes x.owner ≡ Some part
  pub prefix : x.prefix ≡ text_of t k (codes "prefix")
  pub values : IsValuesOrigin t k x.values
  pub mapping : IsMappingOrigin t k x.mapping

-- ---- the whole

-- the tree of systems is what the document says
pub record Describes (t : List Node) (tree : SystemTree) : Type 0 where
  pub nodes : PartNodes
  pub lists : ListsParts t nodes
  pub systems : AllZip (IsSystemPart t nodes) nodes.systems tree.systems
  pub components : AllZip (IsComponentPart t nodes) nodes.components tree.components
  pub connectors : AllZip (IsConnectorPart t nodes) nodes.connectors tree.connectors
  pub connections : AllZip (IsConnectionPart t nodes) nodes.connections tree.connections
  pub bindings : AllZip (IsBindingPart t nodes) nodes.bindings tree.bindings

-- ---- the files that it names

-- the path of its file is plain
abbrev pub IsPlainOrigin : Origin → Type 0
IsPlainOrigin (File base path) = IsPlain path
IsPlainOrigin (Inline node) = Unit {0}

-- the paths of all files are plain: of the components' FMUs, which lead down, and of the bindings' values and mappings
pub record NamesPlainPaths (tree : SystemTree) : Type 0 where
  pub sources : All (λ (c : ComponentPart). LeadsDown c.source) tree.components
  pub components : All (λ (c : ComponentPart). IsPlain c.source) tree.components
  pub values : All (λ (b : Binding). IsPlainOrigin b.values) tree.bindings
  pub mappings : All (λ (b : Binding). IfSome b.mapping IsPlainOrigin) tree.bindings
