-- Two documents put together, one of which stands in place of a Component of the other (SSP 1.0: Component; type, source). Each list is in the order of the whole.
use Rattle.std.specs.Prelude.{ℕ, ◌+◌, ◌==◌, ◌&&◌, nat_lt, Bool, true, false, List, ◌++◌, length, map, take, drop, count_by, position, unwrap_or, bytes_eq, Option}
use Rattle.ssd_tree.specs.declared.tree.ConnectorKind.{ConnectorKind}
use Rattle.ssd_tree.specs.declared.tree.ConnectorKind.TheVariants as kind
use Rattle.ssd_tree.specs.declared.tree.Owner.{Owner}
use Rattle.ssd_tree.specs.declared.tree.Owner.TheVariants.{System, Component}
use Rattle.ssd_tree.specs.declared.tree.SystemPart.{SystemPart}
use Rattle.ssd_tree.specs.declared.tree.ComponentPart.{ComponentPart}
use Rattle.ssd_tree.specs.declared.tree.Connector.{Connector}
use Rattle.ssd_tree.specs.declared.tree.Connection.{Connection}
use Rattle.ssd_tree.specs.declared.tree.Binding.{Binding}
use Rattle.ssd_tree.specs.declared.tree.SystemTree.{SystemTree}
use Rattle.nested_documents.specs.declared.seam.Seam.{Seam}
use Rattle.nested_documents.specs.declared.seam.Side.TheVariants.{Outer, Inner}
use Rattle.nested_documents.specs.declared.seam.Frame.{Frame}
use Rattle.nested_documents.specs.Moves.{moved_system_part, moved_component_part, moved_connector_part, moved_connection, moved_binding}

-- ---- how many parts stand before an element

abbrev pub systems_before : ℕ → List SystemPart → ℕ
systems_before node parts = count_by (λ (x : SystemPart). nat_lt x.node node) parts

abbrev pub connectors_before : ℕ → List Connector → ℕ
connectors_before node parts = count_by (λ (x : Connector). nat_lt x.node node) parts

abbrev pub connections_before : ℕ → List Connection → ℕ
connections_before node parts = count_by (λ (x : Connection). nat_lt x.node node) parts

abbrev pub bindings_before : ℕ → List Binding → ℕ
bindings_before node parts = count_by (λ (x : Binding). nat_lt x.node node) parts

-- what stands before the Component, and what goes in its place
abbrev pub seam_of : SystemTree → ℕ → ComponentPart → SystemTree → ℕ → Seam
seam_of outer place c inner elements = record {
  node = c.node;
  elements = elements;
  system = c.system;
  systems_before = systems_before c.node outer.systems;
  systems = length inner.systems;
  component = place;
  components = length inner.components;
  connectors_before = connectors_before c.node outer.connectors;
  connectors = length inner.connectors;
}

-- ---- the Component's own connectors, and the inner ones that stand for them

abbrev pub is_of : ℕ → Owner → Bool
is_of component (System place) = false
is_of component (Component place) = place == component

abbrev pub is_outermost : Owner → Bool
is_outermost (System place) = place == 0
is_outermost (Component place) = false

abbrev pub is_same_kind : ConnectorKind → ConnectorKind → Bool
is_same_kind kind.Input kind.Input = true
is_same_kind kind.Output kind.Output = true
is_same_kind kind.Parameter kind.Parameter = true
is_same_kind kind.CalculatedParameter kind.CalculatedParameter = true
is_same_kind _ _ = false

-- the outermost System's, of the same name and kind
abbrev pub is_inner : Connector → Connector → Bool
is_inner wanted x =
    is_outermost x.owner && (bytes_eq x.name wanted.name && is_same_kind x.kind wanted.kind)

abbrev pub inner_place : List Connector → Connector → Option ℕ
inner_place inner wanted = position (is_inner wanted) inner

-- they stand right after the connectors before the Component
abbrev pub own_count : ℕ → List Connector → ℕ
own_count component connectors = count_by (λ (x : Connector). is_of component x.owner) connectors

abbrev pub own_connectors : Seam → List Connector → List Connector
own_connectors s connectors =
    let rest = drop s.connectors_before connectors in take (own_count s.component rest) rest

-- the place in the whole of the inner connector, where there is one
abbrev pub inner_end : Seam → List Connector → Connector → ℕ
inner_end s inner wanted = unwrap_or (inner_place inner wanted) 0 + s.connectors_before

abbrev pub inner_ends : Seam → List Connector → List Connector → List ℕ
inner_ends s outer inner = map (inner_end s inner) (own_connectors s outer)

-- ---- the whole

-- the inner parts in place of so many of the outer ones
abbrev pub put : {A : Type 0} → ℕ → ℕ → List A → List A → List A
put at gone inner outer = take at outer ++ (inner ++ drop (at + gone) outer)

abbrev pub put_together : Seam → Frame → List ℕ → SystemTree → SystemTree → SystemTree
put_together s f ends outer inner = record {
  systems = put s.systems_before 0 (map (moved_system_part s f Inner) inner.systems)
      (map (moved_system_part s f Outer) outer.systems);
  components = put s.component 1 (map (moved_component_part s f Inner) inner.components)
      (map (moved_component_part s f Outer) outer.components);
  connectors = put s.connectors_before (length ends)
      (map (moved_connector_part s Inner) inner.connectors)
      (map (moved_connector_part s Outer) outer.connectors);
  connections = put (connections_before s.node outer.connections) 0
      (map (moved_connection s ends Inner) inner.connections)
      (map (moved_connection s ends Outer) outer.connections);
  bindings = put (bindings_before s.node outer.bindings) 0
      (map (moved_binding s f Inner) inner.bindings)
      (map (moved_binding s f Outer) outer.bindings);
}

-- the inner document, with so many elements, stands in place of a Component of the outer one
abbrev pub inlined : SystemTree → ℕ → ComponentPart → Frame → SystemTree → ℕ → SystemTree
inlined outer place c f inner elements =
    let s = seam_of outer place c inner elements in
    put_together s f (inner_ends s outer.connectors inner.connectors) outer inner
