-- The outline of a system: what is known of it before the descriptions of its FMUs are read (SSP 1.0, 5.3).
use Rattle.std.specs.Prelude.{ℕ, List, [], ◌∷◌, Option, None, option_map, option_and_then, slice_get, codes}
use Rattle.std.specs.Option.{option_map_or}
use Rattle.doc_grammar.specs.Nodes.{Node}
use Rattle.doc_tree.specs.Path.{path_to}
use Rattle.doc_tree.specs.declared.place.Place.{Place}
use Rattle.doc_tree.specs.declared.place.Place.TheVariants.{Element}
use Rattle.nested_documents.specs.declared.numbers.Place as elements
use Rattle.ssd_tree.specs.declared.tree.Binding.{Binding}
use Rattle.ssd_tree.specs.declared.tree.SystemTree.{SystemTree}
use Rattle.system_loading.specs.declared.documents.SystemDocument.{SystemDocument}
use Rattle.system_loading.specs.declared.outline.Outline.{Outline}

-- ---- an FMU alone

-- the name of an FMU that is run alone
abbrev pub lone_name : List ℕ
lone_name = codes "fmu"

-- one component in a System, without connectors
abbrev pub lone_tree : SystemTree
lone_tree = record {
  systems = record { node = 0; parent = None; name = lone_name } ∷ [];
  components = record { node = 0; system = 0; name = lone_name; source = [] } ∷ [];
  connectors = [];
  connections = [];
  bindings = [];
}

abbrev pub lone_outline : Outline
lone_outline = record { systems = lone_tree; numbers = []; documents = [] }

-- ---- places

-- the root of a model description
abbrev pub whole_place : Place
whole_place = Element (codes "/fmiModelDescription[1]")

-- the document in which an element stands
abbrev pub document_at : List SystemDocument → elements.Place → Option SystemDocument
document_at documents p = slice_get documents p.document

-- where an element is told: in its document
abbrev pub place_at : List SystemDocument → elements.Place → Place
place_at documents p =
    option_map_or (λ (d : SystemDocument). Element (path_to d.tree p.node))
    (document_at documents p) whole_place

-- the document in which an element of the tree stands
abbrev pub document_in : Outline → ℕ → Option SystemDocument
document_in o number = option_and_then (document_at o.documents) (slice_get o.numbers number)

-- where an element of the tree is told: in its document, or as the whole description of the FMU that is alone
abbrev pub place_in : Outline → ℕ → Place
place_in o number = option_map_or (place_at o.documents) (slice_get o.numbers number) whole_place

-- the elements of the document in which an element of the tree stands, and its number there
abbrev pub element_in : Outline → ℕ → Option (List Node × ℕ)
element_in o number =
    option_and_then (λ (p : elements.Place). option_map (λ (d : SystemDocument). (d.tree, p.node))
    (document_at o.documents p)) (slice_get o.numbers number)

-- the elements of the document in which a binding stands
abbrev pub binding_tree : Outline → ℕ → Option (List Node)
binding_tree o n =
    option_and_then (λ (b : Binding). option_map (λ (d : SystemDocument). d.tree)
    (document_in o b.node)) (slice_get o.systems.bindings n)

-- where an element of that document is told
abbrev pub place_within : Outline → ℕ → ℕ → Place
place_within o n node =
    option_map_or (λ (t : List Node). Element (path_to t node)) (binding_tree o n) whole_place
