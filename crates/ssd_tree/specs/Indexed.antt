-- A document with the lists of its parts and the tables of their names.
use Rattle.std.specs.Prelude.{List}
use Rattle.doc_grammar.specs.Nodes.{Node}
use Rattle.doc_tables.specs.Tables.{IsTable}
use Rattle.doc_tables.specs.Places.{found_in}
use Rattle.ssd_tree.specs.declared.indexed.PartLists.{PartLists}
use Rattle.ssd_tree.specs.declared.indexed.IndexedTree.{IndexedTree}
use Rattle.ssd_tree.specs.Elements.{element_key, connector_key, mapping_key}
use Rattle.ssd_tree.specs.Listings.{IsListing}
use Rattle.ssd_tree.specs.Parts.{PartNodes, ListsParts}
use Rattle.ssd_tree.specs.Rules.{IsFmu}

abbrev pub nodes_of : PartLists → PartNodes
nodes_of lists = record {
  systems = lists.systems.items;
  components = lists.components.items;
  connectors = lists.connectors.items;
  connections = lists.connections.items;
  bindings = lists.bindings.items;
}

-- the lists have the parts of the tree
abbrev pub ListsNodes : List Node → PartLists → Type 0
ListsNodes t lists = ListsParts t (nodes_of lists)

-- the lists and tables are those of the tree
pub record IsIndexed (d : IndexedTree) : Type 0 where
  pub lists : ListsNodes d.tree.now d.lists
  pub fmus : IsListing (IsFmu d.setting d.tree.now) d.fmus.items
  pub elements : IsTable (element_key d.tree.now) (found_in d.elements)
  pub connectors : IsTable (connector_key d.tree.now) (found_in d.connectors)
  pub mappings : IsTable (mapping_key d.tree.now) (found_in d.mappings)
