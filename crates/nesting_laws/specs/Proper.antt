-- Documents, and what they say together, as they may be flattened: whose Components that wait have the names of the Systems around them, and each number of which names a part.
use Rattle.std.specs.Prelude.{◌≡◌, ℕ, ◌+◌, ◌<◌, ◌≤◌, ◌^◌, None, IfSome, length, All}
use Rattle.ssd_tree.specs.declared.tree.Binding.{Binding}
use Rattle.ssd_tree.specs.declared.tree.ComponentPart.{ComponentPart}
use Rattle.ssd_tree.specs.declared.tree.Connection.{Connection}
use Rattle.ssd_tree.specs.declared.tree.Connector.{Connector}
use Rattle.ssd_tree.specs.declared.tree.NestedComponent.{NestedComponent}
use Rattle.ssd_tree.specs.declared.tree.Origin.{Origin}
use Rattle.ssd_tree.specs.declared.tree.Origin.TheVariants.{File, Inline}
use Rattle.ssd_tree.specs.declared.tree.Setting.{Setting}
use Rattle.ssd_tree.specs.declared.tree.SystemTree.{SystemTree}
use Rattle.ssd_tree.specs.Lists.{AreBetween, places_of}
use Rattle.ssd_tree.specs.Named.{IsNamedTree, IsOwner}
use Rattle.ssd_tree.specs.Sources.{LeadsDown}
use Rattle.nested_documents.specs.declared.components.Waiting.{Waiting}
use Rattle.nested_documents.specs.declared.numbers.Place.{Place}
use Rattle.nested_documents.specs.Between.{waiting_places}
use Rattle.nested_documents.specs.States.{Document, Gathered}
use Rattle.structure_laws.specs.Orderly.{IsOrderly}
use Rattle.structure_laws.specs.OwnNames.{HasOwnName}
use Rattle.flatten.specs.Given.{IsWholeDocument}

-- what stands within an element stands among so many elements
abbrev pub IsOriginBelow : ℕ → Origin → Type 0
IsOriginBelow elements (File base path) = Unit {0}
IsOriginBelow elements (Inline node) = node < elements

-- connectors, and what stands within bindings, are among so many elements
pub record AreBelow (elements : ℕ) (t : SystemTree) : Type 0 where
  pub connectors : All (λ (k : Connector). k.node < elements) t.connectors
  pub values : All (λ (b : Binding). IsOriginBelow elements b.values) t.bindings
  pub mappings : All (λ (b : Binding). IfSome b.mapping (IsOriginBelow elements)) t.bindings

abbrev pub HaveSources : SystemTree → Type 0
HaveSources t = All (λ (c : ComponentPart). LeadsDown c.source) t.components

-- a document in order, with full names, whose nested Components stand among its Components under their own names
pub record IsProperDocument (s : Setting) (d : Document) : Type 0 where
  pub orderly : IsOrderly d.elements d.tree
  pub named : IsNamedTree d.tree
  pub placed : AreBetween 0 (length d.tree.components) (places_of d.nested)
  pub nested : All (λ (x : NestedComponent). HasOwnName d.tree x.component x.own_name) d.nested
  pub whole : IsWholeDocument s d.tree d.nested
  pub parts : AreBelow d.elements d.tree
  pub sources : HaveSources d.tree

-- both ends of a connection are connectors of the tree
abbrev pub HasEnds : SystemTree → Connection → Type 0
HasEnds t k = (k.start < length t.connectors) × (k.end < length t.connectors)

-- the same of documents that are put together, and of the Components that wait
pub record IsProper (g : Gathered) : Type 0 where
  pub orderly : IsOrderly (length g.elements) g.tree
  pub named : IsNamedTree g.tree
  pub placed : AreBetween 0 (length g.tree.components) (waiting_places g.waiting)
  pub waiting : All (λ (w : Waiting). HasOwnName g.tree w.component w.own_name) g.waiting
  pub few : length g.tree.components ≤ 256 + length g.waiting
  pub names : All (λ (c : ComponentPart). (0 < length c.name) × (length c.name ≤ 2 ^ 24))
      g.tree.components
  pub owners : All (λ (k : Connector). IsOwner g.tree k.owner) g.tree.connectors
  pub ends : g.lacking ≡ None → All (HasEnds g.tree) g.tree.connections
  pub parts : AreBelow (length g.elements) g.tree
  pub sources : HaveSources g.tree
  pub held : All (λ (p : Place). p.document < g.documents) g.elements
