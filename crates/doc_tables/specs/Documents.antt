-- What the documents of SSP 1.0 have in common: their version, and the elements that stand for transformations of values (SSC: TTransformation).
use Rattle.std.specs.Prelude.{ℕ, Bool, false, ◌||◌, List, codes, bytes_eq}
use Rattle.std.specs.Option.{option_map_or}
use Rattle.doc_grammar.specs.Nodes.{Node}
use Rattle.doc_tables.specs.Elements.{attribute}

-- the element says that it is of version 1.0
abbrev pub has_version : List Node → ℕ → Bool
has_version t k =
    option_map_or (λ text. bytes_eq text (codes "1.0")) (attribute t k (codes "version")) false

-- an element of this name is a transformation
abbrev pub is_transformation : List ℕ → Bool
is_transformation name =
    (bytes_eq name (codes "LinearTransformation") ||
    bytes_eq name (codes "BooleanMappingTransformation"))
    || (bytes_eq name (codes "IntegerMappingTransformation") ||
    bytes_eq name (codes "EnumerationMappingTransformation"))
