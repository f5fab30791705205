-- What the tables of a description have: elements by their value references, the CoSimulation, ignored variables.
use Rattle.std.specs.Prelude.{◌≡◌, ◌↔◌, ◌==◌, ◌<◌, ℕ, Bool, IsTrue, List, All, Contains, Option, Some, find}
use Rattle.std.specs.Option.{option_map}
use Rattle.doc_grammar.specs.Nodes.{Node}
use Rattle.fmu_description.specs.declared.ignored.Ignored.{Ignored}
use Rattle.doc_tables.specs.Tables.{FindsFirst}
use Rattle.fmu_description.specs.Elements.{is_co_simulation}
use Rattle.fmu_description.specs.Marks.{is_marked}
use Rattle.fmu_description.specs.Clocks.{IsIgnored}

-- the first element that a list has for a reference
unfoldable pub found : List (ℕ × ℕ) → ℕ → Option ℕ
found entries reference =
    option_map (λ (e : ℕ × ℕ). e.1) (find (λ (e : ℕ × ℕ). e.0 == reference) entries)

-- each is listed with its reference, all that have one
pub record AreListed (key : ℕ → Option ℕ) (entries : List (ℕ × ℕ)) : Type 0 where
  pub told : All (λ (e : ℕ × ℕ). key e.1 ≡ Some e.0) entries
  pub whole : (k reference : ℕ) → key k ≡ Some reference → Contains entries (reference, k)

-- the same of the first n
pub record AreListedBelow (key : ℕ → Option ℕ) (n : ℕ) (entries : List (ℕ × ℕ)) : Type 0 where
  pub told : All (λ (e : ℕ × ℕ). key e.1 ≡ Some e.0) entries
  pub whole : (k reference : ℕ) → k < n → key k ≡ Some reference → Contains entries (reference, k)

-- the mark of an element
abbrev pub is_ignored : Ignored → ℕ → Bool
is_ignored ignored k = is_marked ignored.marks.items k

-- what is found: nothing where there is no element CoSimulation, and else the one that counts
abbrev pub FindsCoSimulation : List Node → Option ℕ → Type 0
FindsCoSimulation t found = FindsFirst (is_co_simulation t) found

-- the elements that are marked are the ignored variables
abbrev pub MarksIgnored : List Node → (ℕ → Bool) → Type 0
MarksIgnored t marked = (k : ℕ) → IsTrue (marked k) ↔ IsIgnored t k
