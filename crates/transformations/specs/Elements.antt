-- The elements that transformations are, and those that stand in them (SSC: TTransformation).
-- A tree is the list of its elements in document order; an element is named by its place.
use Rattle.std.specs.Prelude.{ℕ, List, Option, find, filter}
use Rattle.doc_grammar.specs.Nodes.{Node}
use Rattle.doc_tables.specs.Elements.{children, name_of, is_named}
use Rattle.doc_tables.specs.Documents.{is_transformation}

-- the elements with a name that stand directly in this one
abbrev pub children_named : List Node → List ℕ → ℕ → List ℕ
children_named t name k = filter (λ c. is_named t c name) (children t k)

abbrev pub transformations_of : List Node → ℕ → List ℕ
transformations_of t k = filter (λ c. is_transformation (name_of t c)) (children t k)

-- of several transformations of an element the first counts
abbrev pub first_transformation : List Node → ℕ → Option ℕ
first_transformation t k = find (λ c. is_transformation (name_of t c)) (children t k)
