-- Which inner connector stands for one of a Component's, found by its kind and name: those of a kind are one scope of names.
use Rattle.std.specs.Prelude.{ℕ, ◌+◌, not, List, map, find, is_some, Option, Some, option_map, option_and_then, slice_get, unwrap_or}
use Rattle.doc_tables.specs.declared.scopes.ScopedPlaces.{ScopedPlaces}
use Rattle.doc_tables.specs.Elements.{key_if}
use Rattle.doc_tables.specs.Places.{found_in}
use Rattle.ssd_tree.specs.declared.tree.Connector.{Connector}
use Rattle.ssd_tree.specs.declared.tree.ConnectorKind.{ConnectorKind}
use Rattle.ssd_tree.specs.declared.tree.ConnectorKind.TheVariants as kind
use Rattle.nested_documents.specs.declared.seam.Seam.{Seam}
use Rattle.nested_documents.specs.Inlining.{is_outermost}

abbrev pub kind_scope : ConnectorKind → ℕ
kind_scope kind.Input = 0
kind_scope kind.Output = 1
kind_scope kind.Parameter = 2
kind_scope kind.CalculatedParameter = 3

-- the kind and the name of a connector of the outermost System
abbrev pub outermost_key : Connector → Option (ℕ × List ℕ)
outermost_key x = key_if (is_outermost x.owner) (Some (kind_scope x.kind, x.name))

-- those of the connector at a place
abbrev pub inner_key : List Connector → ℕ → Option (ℕ × List ℕ)
inner_key inner place = option_and_then outermost_key (slice_get inner place)

-- the place that a table has for the kind and the name of a connector
abbrev pub found_for : ScopedPlaces → Connector → Option ℕ
found_for places wanted = found_in places (kind_scope wanted.kind, wanted.name)

-- the first of a Component's connectors for which a table has none
abbrev pub first_unfound : List Connector → ScopedPlaces → Option ℕ
first_unfound own places =
    option_map (λ (x : Connector). x.node)
    (find (λ (x : Connector). not (is_some (found_for places x))) own)

-- the places in the whole of the inner connectors that a table has for a Component's
abbrev pub found_end : Seam → ScopedPlaces → Connector → ℕ
found_end s places wanted = unwrap_or (found_for places wanted) 0 + s.connectors_before

abbrev pub found_ends : Seam → ScopedPlaces → List Connector → List ℕ
found_ends s places own = map (found_end s places) own
