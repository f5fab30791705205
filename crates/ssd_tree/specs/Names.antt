-- How full names begin, and how long they are.
use Rattle.std.specs.Prelude.{◌≡◌, ℕ, List, [], ◌∷◌, ◌++◌, Some, codes, length}
use Rattle.std.specs.List.{AllZip}
use Rattle.doc_grammar.specs.Nodes.{Node}
use Rattle.doc_tables.specs.Elements.{parent, text_of}
use Rattle.ssd_tree.specs.Elements.{holder}
use Rattle.ssd_tree.specs.Parts.{IsFullName}

-- what stands before the names of a System's elements: nothing in the outermost, and elsewhere its full name and a dot
pub data IsNameScope (t : List Node) (k : ℕ) (scope : List ℕ) : Type 0 where
  Outermost : parent t k ≡ Some 0 → scope ≡ [] → IsNameScope t k scope
  Inner : (outer : ℕ) (name : List ℕ) → holder t k (codes "Elements") ≡ Some outer →
      IsFullName t k name → scope ≡ name ++ 46 ∷ [] → IsNameScope t k scope

-- the name of an element, with a dot after it
abbrev pub IsDotted : List Node → ℕ → List ℕ → Type 0
IsDotted t k name = name ≡ text_of t k (codes "name") ++ 46 ∷ []

-- those of some elements
abbrev pub AreDotted : List Node → List ℕ → List (List ℕ) → Type 0
AreDotted t nodes names = AllZip (IsDotted t) nodes names

-- the element has a full name, and each of its full names has so many bytes
pub record HasNameLength (t : List Node) (k n : ℕ) : Type 0 where
  pub name : List ℕ
  pub is : IsFullName t k name
  pub each : (other : List ℕ) → IsFullName t k other → length other ≡ n
