-- The elements of a set of parameter values and of a mapping of parameters, in a file or in a binding (SSP 1.0: ParameterSet, ParameterMapping).
-- A tree is the list of its elements in document order; an element is named by its place.
use Rattle.std.specs.Prelude.{ℕ, Bool, ◌||◌, List, [], ◌∷◌, Option, Some, None, find, filter, codes, bytes_eq}
use Rattle.std.specs.List.{flat_map}
use Rattle.doc_grammar.specs.Nodes.{Node}
use Rattle.doc_tables.specs.Elements.{children, name_of, is_named}
use Rattle.transformations.specs.Elements.{children_named, transformations_of}

-- ---- what stands in what

-- the elements with a name that stand directly in one of these
abbrev pub inside : List Node → List ℕ → List ℕ → List ℕ
inside t name outer = flat_map (children_named t name) outer

-- ---- where a set or a mapping begins: at the root of a file, or in an element of a binding

-- what there is of this name: the root, or what stands directly in the element of the binding
abbrev pub tops : List Node → List ℕ → Option ℕ → List ℕ
tops t name None = filter (λ c. is_named t c name) (0 ∷ [])
tops t name (Some holder) = children_named t name holder

-- the element that is told where there isn't just one
abbrev pub seat : Option ℕ → ℕ
seat None = 0
seat (Some holder) = holder

-- ---- parts

abbrev pub sets : List Node → Option ℕ → List ℕ
sets t at = tops t (codes "ParameterSet") at

-- a Parameter stands in a list Parameters of a set
abbrev pub parameters : List Node → Option ℕ → List ℕ
parameters t at = inside t (codes "Parameter") (inside t (codes "Parameters") (sets t at))

abbrev pub mappings : List Node → Option ℕ → List ℕ
mappings t at = tops t (codes "ParameterMapping") at

-- a MappingEntry stands in a mapping
abbrev pub entries : List Node → Option ℕ → List ℕ
entries t at = inside t (codes "MappingEntry") (mappings t at)

-- all transformations of all entries
abbrev pub transformations : List Node → Option ℕ → List ℕ
transformations t at = flat_map (transformations_of t) (entries t at)

-- ---- values

abbrev pub is_value : List ℕ → Bool
is_value name =
    ((bytes_eq name (codes "Real") || bytes_eq name (codes "Integer")) ||
    (bytes_eq name (codes "Boolean") || bytes_eq name (codes "String")))
    || (bytes_eq name (codes "Enumeration") || bytes_eq name (codes "Binary"))

-- of several values of a Parameter the first counts
abbrev pub first_value : List Node → ℕ → Option ℕ
first_value t k = find (λ c. is_value (name_of t c)) (children t k)
