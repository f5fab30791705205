-- Outlines that say the same but for the numbers of elements, as that of several documents and that of the one in which each stands in place of its Component (SSP 1.0: Component; source, type).
use Rattle.std.specs.Prelude.{◌≡◌, List, [], map}
use Rattle.std.specs.Option.{option_map}
use Rattle.sim_base.specs.declared.read_book.ReadNote.{ReadNote}
use Rattle.value_types.specs.declared.shape.Shape.{Shape}
use Rattle.ssd_tree.specs.declared.tree.SystemPart.{SystemPart}
use Rattle.ssd_tree.specs.declared.tree.ComponentPart.{ComponentPart}
use Rattle.ssd_tree.specs.declared.tree.Connector.{Connector}
use Rattle.ssd_tree.specs.declared.tree.Connection.{Connection}
use Rattle.ssd_tree.specs.declared.tree.Binding.{Binding}
use Rattle.ssd_tree.specs.declared.tree.Origin.{Origin}
use Rattle.ssd_tree.specs.declared.tree.Origin.TheVariants.{File, Inline}
use Rattle.ssd_tree.specs.declared.tree.SystemTree.{SystemTree}
use Rattle.parameter_values.specs.declared.set.Mapping.{Mapping}
use Rattle.parameter_values.specs.declared.set.MappingEntry.{MappingEntry}
use Rattle.parameter_values.specs.declared.set.Parameter.{Parameter}
use Rattle.parameter_values.specs.declared.set.ParameterSet.{ParameterSet}
use Rattle.parameter_values.specs.declared.set.Transformation.{Transformation}
use Rattle.parameter_binding.specs.declared.sets.BindingSets.{BindingSets}
use Rattle.parameter_binding.specs.declared.sets.MappingOf.{MappingOf}
use Rattle.system_loading.specs.declared.outline.Outline.{Outline}
use Rattle.system_loading.specs.declared.parameters.GivenBinding.{GivenBinding}
use Rattle.system_loading.specs.Assembly.{Makes}
use Rattle.system_loading.specs.Binding.{Binds, sets_of}
use Rattle.system_files.specs.declared.loaded.Loaded.{Loaded}
use Rattle.system_files.specs.Order.{ReachesBindings, Search, folders_of}

-- ---- parts without the numbers of their elements

abbrev pub plain_system : SystemPart → SystemPart
plain_system x = record { node = 0; parent = x.parent; name = x.name }

abbrev pub plain_component : ComponentPart → ComponentPart
plain_component x = record { node = 0; system = x.system; name = x.name; source = x.source }

abbrev pub plain_connector : Connector → Connector
plain_connector x = record { node = 0; owner = x.owner; name = x.name; kind = x.kind; child = x.child }

abbrev pub plain_connection : Connection → Connection
plain_connection x = record { node = 0; start = x.start; end = x.end; change = x.change }

abbrev pub plain_origin : Origin → Origin
plain_origin (File base path) = File base path
plain_origin (Inline node) = Inline 0

abbrev pub plain_binding : Binding → Binding
plain_binding x = record {
  node = 0;
  owner = x.owner;
  prefix = x.prefix;
  values = plain_origin x.values;
  mapping = option_map plain_origin x.mapping;
}

abbrev pub without_numbers : SystemTree → SystemTree
without_numbers t = record {
  systems = map plain_system t.systems;
  components = map plain_component t.components;
  connectors = map plain_connector t.connectors;
  connections = map plain_connection t.connections;
  bindings = map plain_binding t.bindings;
}

-- ---- the same of what bindings give

abbrev pub plain_parameter : Parameter → Parameter
plain_parameter x = record { node = 0; name = x.name; value = x.value }

abbrev pub plain_set : ParameterSet → ParameterSet
plain_set x = record { parameters = map plain_parameter x.parameters }

abbrev pub plain_transformation : Transformation → Transformation
plain_transformation x = record { node = 0; change = x.change }

abbrev pub plain_entry : MappingEntry → MappingEntry
plain_entry x = record {
  node = 0;
  source = x.source;
  target = x.target;
  transformation = option_map plain_transformation x.transformation;
}

abbrev pub plain_mapping : Mapping → Mapping
plain_mapping x = record { entries = map plain_entry x.entries }

abbrev pub plain_mapping_of : MappingOf → MappingOf
plain_mapping_of x = record { file = x.file; mapping = plain_mapping x.mapping }

abbrev pub plain_sets : BindingSets → BindingSets
plain_sets x = record {
  values = record { file = x.values.file; set = plain_set x.values.set };
  mapping = option_map plain_mapping_of x.mapping;
}

-- ---- the same

-- the trees of two outlines are the same but for the numbers of elements
abbrev pub SayTheSame : Outline → Outline → Type 0
SayTheSame o p = without_numbers o.systems ≡ without_numbers p.systems

-- two lists of bindings give the same
abbrev pub GiveTheSame : List GivenBinding → List GivenBinding → Type 0
GiveTheSame given other = map plain_sets (sets_of given) ≡ map plain_sets (sets_of other)

-- ---- what files come to

-- by these reads the outline, the shapes of its components and all that its bindings give are taken
abbrev pub AreTaken : Search → List ReadNote → Outline → List Shape → List GivenBinding → Type 0
AreTaken s reads o shapes given =
    ReachesBindings s reads o shapes o.systems.bindings given []

-- what they make
pub record IsMade (s : Search) (o : Outline) (shapes : List Shape) (given : List GivenBinding)
    (loaded : Loaded) : Type 0 where
  pub binds : Binds o shapes given loaded.bound
  pub makes : Makes o shapes loaded.system
  pub folders : loaded.folders ≡ folders_of s.directory o
