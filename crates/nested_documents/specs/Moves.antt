-- Where the parts of two documents go, one of which stands in place of a Component of the other (SSP 1.0: Component; source, type).
-- The elements of the inner document stand before the Component's element, and its parts in place of the Component.
use Rattle.std.specs.Prelude.{ℕ, ◌+◌, ◌-◌, ◌==◌, nat_lt, nat_le, List, ◌∷◌, ◌++◌, length, Option, Some, None, option_map, slice_get, if◌then◌else◌}
use Rattle.std.specs.Option.{option_map_or}
use Rattle.ssd_tree.specs.declared.tree.Owner.{Owner}
use Rattle.ssd_tree.specs.declared.tree.Owner.TheVariants.{System, Component}
use Rattle.ssd_tree.specs.declared.tree.SystemPart.{SystemPart}
use Rattle.ssd_tree.specs.declared.tree.ComponentPart.{ComponentPart}
use Rattle.ssd_tree.specs.declared.tree.Connector.{Connector}
use Rattle.ssd_tree.specs.declared.tree.Connection.{Connection}
use Rattle.ssd_tree.specs.declared.tree.Binding.{Binding}
use Rattle.ssd_tree.specs.declared.tree.Origin.{Origin}
use Rattle.ssd_tree.specs.declared.tree.Origin.TheVariants.{File, Inline}
use Rattle.ssd_tree.specs.declared.tree.SourceBase.{SourceBase}
use Rattle.ssd_tree.specs.declared.tree.SourceBase.TheVariants as base
use Rattle.nested_documents.specs.declared.seam.Seam.{Seam}
use Rattle.nested_documents.specs.declared.seam.Side.{Side}
use Rattle.nested_documents.specs.declared.seam.Side.TheVariants.{Outer, Inner}
use Rattle.nested_documents.specs.declared.seam.Frame.{Frame}

-- ---- places

-- the place of what stood at a place, where so many more were put after the first so many
abbrev pub after : ℕ → ℕ → ℕ → ℕ
after before more place = if nat_lt place before then place else place + more

abbrev pub moved_node : Seam → Side → ℕ → ℕ
moved_node s Outer node = after s.node s.elements node
moved_node s Inner node = node + s.node

abbrev pub moved_system : Seam → Side → ℕ → ℕ
moved_system s Outer place = after s.systems_before s.systems place
moved_system s Inner place = place + s.systems_before

-- one Component goes: those after it move up by one
abbrev pub moved_component : Seam → Side → ℕ → ℕ
moved_component s Outer place =
    if nat_le place s.component then place else (place - 1) + s.components
moved_component s Inner place = place + s.component

-- what was the Component's is the outermost inner System's
abbrev pub moved_owner : Seam → Side → Owner → Owner
moved_owner s side (System place) = System (moved_system s side place)
moved_owner s Outer (Component place) =
    if place == s.component then System s.systems_before
    else Component (moved_component s Outer place)
moved_owner s Inner (Component place) = Component (moved_component s Inner place)

-- the Component's own connectors go: each is the inner one that the list has for it
abbrev pub outer_connector : Seam → List ℕ → ℕ → ℕ
outer_connector s ends place =
    if nat_lt place s.connectors_before then place
    else option_map_or (λ end. end) (slice_get ends (place - s.connectors_before))
    ((place - length ends) + s.connectors)

abbrev pub moved_connector : Seam → List ℕ → Side → ℕ → ℕ
moved_connector s ends Outer place = outer_connector s ends place
moved_connector s ends Inner place = place + s.connectors_before

-- ---- names and paths

-- a name below another
abbrev pub name_below : List ℕ → List ℕ → List ℕ
name_below above name = above ++ 46 ∷ name

-- a path below a folder; the folder of the outermost document has no name
abbrev pub path_below : List ℕ → List ℕ → List ℕ
path_below folder path = if length folder == 0 then path else folder ++ 47 ∷ path

-- ---- parts

-- an outermost System stands in that of the Component
abbrev pub moved_parent : Seam → Side → Option ℕ → Option ℕ
moved_parent s Outer parent = option_map (moved_system s Outer) parent
moved_parent s Inner None = Some s.system
moved_parent s Inner (Some place) = Some (moved_system s Inner place)

-- and has the name of the Component
abbrev pub system_name : Frame → Side → SystemPart → List ℕ
system_name f Outer x = x.name
system_name f Inner x = option_map_or (λ (place : ℕ). x.name) x.parent f.own_name

abbrev pub moved_system_part : Seam → Frame → Side → SystemPart → SystemPart
moved_system_part s f side x = record {
  node = moved_node s side x.node;
  parent = moved_parent s side x.parent;
  name = system_name f side x;
}

abbrev pub whole_name : Frame → Side → List ℕ → List ℕ
whole_name f Outer name = name
whole_name f Inner name = name_below f.name name

abbrev pub whole_source : Frame → Side → List ℕ → List ℕ
whole_source f Outer path = path
whole_source f Inner path = path_below f.folder path

abbrev pub moved_component_part : Seam → Frame → Side → ComponentPart → ComponentPart
moved_component_part s f side x = record {
  node = moved_node s side x.node;
  system = moved_system s side x.system;
  name = whole_name f side x.name;
  source = whole_source f side x.source;
}

abbrev pub moved_connector_part : Seam → Side → Connector → Connector
moved_connector_part s side x = record {
  node = moved_node s side x.node;
  owner = moved_owner s side x.owner;
  name = x.name;
  kind = x.kind;
  child = x.child;
}

abbrev pub moved_connection : Seam → List ℕ → Side → Connection → Connection
moved_connection s ends side x = record {
  node = moved_node s side x.node;
  start = moved_connector s ends side x.start;
  end = moved_connector s ends side x.end;
  change = x.change;
}

-- ---- where parameters are given

-- a file of a binding of the Component that stands below it stands below its folder; one of another Component stays below that
abbrev pub outer_file : Seam → Frame → Owner → SourceBase → List ℕ → Origin
outer_file s f (Component place) base.Component path =
    if place == s.component then File base.Description (path_below f.folder path)
    else File base.Component path
outer_file s f owner base path = File base path

abbrev pub inner_file : Frame → SourceBase → List ℕ → Origin
inner_file f base.Description path = File base.Description (path_below f.folder path)
inner_file f base.Component path = File base.Component path

abbrev pub moved_origin : Seam → Frame → Side → Owner → Origin → Origin
moved_origin s f side owner (Inline node) = Inline (moved_node s side node)
moved_origin s f Outer owner (File base path) = outer_file s f owner base path
moved_origin s f Inner owner (File base path) = inner_file f base path

abbrev pub moved_binding : Seam → Frame → Side → Binding → Binding
moved_binding s f side x = record {
  node = moved_node s side x.node;
  owner = moved_owner s side x.owner;
  prefix = x.prefix;
  values = moved_origin s f side x.owner x.values;
  mapping = option_map (moved_origin s f side x.owner) x.mapping;
}
