-- What any document's elements are called, say and stand in.
-- A tree is the list of its elements in document order; an element is named by its place.
use Rattle.std.specs.Prelude.{◌≡◌, ℕ, Bool, true, false, not, ◌==◌, List, [], length, Option, Some, None, unwrap_or, option_and_then, slice_get, bytes_eq}
use Rattle.std.specs.Option.{option_map_or}
use Rattle.doc_grammar.specs.Nodes.{Node}
use Rattle.doc_tree.specs.Elements.{children_of, value_at}
use Rattle.doc_tree.specs.Path.{name_at, parent_at}

-- ---- names, attributes and places; past the last element there is none of them

abbrev pub name_of : List Node → ℕ → List ℕ
name_of t k = name_at t k

abbrev pub is_named : List Node → ℕ → List ℕ → Bool
is_named t k name = bytes_eq (name_of t k) name

abbrev pub attribute : List Node → ℕ → List ℕ → Option (List ℕ)
attribute t k name = option_and_then (λ (n : Node). value_at n.attrs name) (slice_get t k)

-- the text of an attribute, empty where it is absent
abbrev pub text_of : List Node → ℕ → List ℕ → List ℕ
text_of t k name = unwrap_or (attribute t k name) []

abbrev pub parent : List Node → ℕ → Option ℕ
parent t k = parent_at t k

-- the elements that stand directly in this one
abbrev pub children : List Node → ℕ → List ℕ
children t k = option_map_or (λ (n : Node). children_of t k) (slice_get t k) []

-- the root, in which all others stand
abbrev pub is_root : List Node → ℕ → Bool
is_root t k = k == 0

-- the element stands directly in one of this sort
abbrev pub is_in : (List Node → ℕ → Bool) → List Node → ℕ → Bool
is_in sort t k = option_map_or (sort t) (parent t k) false

-- ---- keys, by which elements are found

-- the key, which an element has where it is of a sort
abbrev pub key_if : {A : Type 0} → Bool → Option A → Option A
key_if true x = x
key_if false x = None

-- a text that isn't empty
abbrev pub unless_empty : Option (List ℕ) → Option (List ℕ)
unless_empty None = None
unless_empty (Some text) = key_if (not (length text == 0)) (Some text)

-- ---- what is absent, and what doesn't read

abbrev pub Lacks : List Node → ℕ → List ℕ → Type 0
Lacks t k name = attribute t k name ≡ None

-- an empty text counts as absent
abbrev pub LacksText : List Node → ℕ → List ℕ → Type 0
LacksText t k name = unless_empty (attribute t k name) ≡ None

-- the attribute is there, and the reading answers nothing
abbrev pub Misreads : {A : Type 0} → (List ℕ → Option A) → List Node → ℕ → List ℕ → Type 0
Misreads read t k name = (text : List ℕ) × (attribute t k name ≡ Some text) × (read text ≡ None)
