-- Names with the elements that have them, and which elements have the name of one before them.
use Rattle.std.specs.Prelude.{◌≡◌, ◌↔◌, ℕ, ◌+◌, ◌<◌, Bool, false, IsTrue, List, All, Contains, Option, Some, slice_get, slice_index_or}
use Rattle.std.specs.Borrow.{Bor}
use Rattle.std.specs.declared.cmp.Ordering.{Ordering}
use Rattle.std.specs.Ordering.{nat_cmp, ordering_then}
use Rattle.std.specs.Cmp.Lexicographic.{slice_cmp}
use Rattle.doc_grammar.specs.Nodes.{Node}
use Rattle.doc_tables.specs.Tables.{IsRepeated}
use Rattle.fmu_description.specs.declared.names.RepeatedNames.{RepeatedNames}
use Rattle.fmu_description.specs.Elements.{name_key}

-- a name and the element that has it
abbrev pub Named : Type 0
Named = Bor (List ℕ) × ℕ

-- the order by the name, and then by the element
abbrev pub named_cmp : Named → Named → Ordering
named_cmp a b = ordering_then (slice_cmp nat_cmp a.0.now b.0.now) (nat_cmp a.1 b.1)

-- the element is listed with the name
abbrev pub IsListed : List Named → List ℕ → ℕ → Type 0
IsListed named name k = (e : Named) × Contains named e × (e.0.now ≡ name) × (e.1 ≡ k)

-- each is listed with its name, all that have one among the first n
pub record AreNamedBelow (key : ℕ → Option (List ℕ)) (n : ℕ) (named : List Named) : Type 0 where
  pub told : All (λ (e : Named). key e.1 ≡ Some e.0.now) named
  pub whole : (k : ℕ) (name : List ℕ) → k < n → key k ≡ Some name → IsListed named name k

-- each is listed with its name, all that have one
pub record AreNamed (key : ℕ → Option (List ℕ)) (named : List Named) : Type 0 where
  pub told : All (λ (e : Named). key e.1 ≡ Some e.0.now) named
  pub whole : (k : ℕ) (name : List ℕ) → key k ≡ Some name → IsListed named name k

-- they have one name, and the one element is before the other
abbrev pub IsAfter : Named → Named → Type 0
IsAfter one other = (one.0.now ≡ other.0.now) × (one.1 < other.1)

-- the element at the next place is after that at this one
pub record IsAfterAt (named : List Named) (i k : ℕ) : Type 0 where
  pub one : Named
  pub other : Named
  pub before : slice_get named i ≡ Some one
  pub here : slice_get named (i + 1) ≡ Some other
  pub after : IsAfter one other
  pub is : other.1 ≡ k

-- it is so at some place
abbrev pub StandsAfter : List Named → ℕ → Type 0
StandsAfter named k = (i : ℕ) × IsAfterAt named i k

-- the mark of an element
abbrev pub is_repeated : RepeatedNames → ℕ → Bool
is_repeated names k = slice_index_or names.marks.items k false

-- the elements that are marked have the name of one before them
abbrev pub MarksRepeated : List Node → (ℕ → Bool) → Type 0
MarksRepeated t marked = (k : ℕ) → IsTrue (marked k) ↔ IsRepeated (name_key t) k
