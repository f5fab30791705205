-- How the ignored variables are found: what is marked, and what is left to do.
use Rattle.std.specs.Prelude.{ℕ, ◌+◌, ◌*◌, ◌<◌, ◌≤◌, Bool, IsTrue, true, false, not, ◌≡◌, ◌⊎◌, ◌↔◌, List, [], length, slice_index_or, count_by, Contains, Some}
use Rattle.std.specs.Option.{option_map_or}
use Rattle.std.specs.Ordering.{nat_cmp}
use Rattle.std.specs.BTreeMap.{BTreeMap, get}
use Rattle.std.specs.declared.vec.Vec.{Vec}
use Rattle.std.specs.declared.alloc.Global.{Global}
use Rattle.doc_grammar.specs.Nodes.{Node}
use Rattle.fmu_description.specs.Elements.{is_variable, clock_key}
use Rattle.fmu_description.specs.Clocks.{IsIgnoredItself, clocks_of}

-- a variable that is ignored by itself
abbrev pub IsSource : List Node → ℕ → Type 0
IsSource t k = (is_variable t k ≡ true) × IsIgnoredItself t k

-- a variable that names the reference in `clocks`
abbrev pub Follows : List Node → ℕ → ℕ → Type 0
Follows t k reference = (is_variable t k ≡ true) × Contains (clocks_of t k) reference

-- the elements that a table has for a reference
abbrev pub listed_at : BTreeMap ℕ (Vec ℕ Global) → ℕ → List ℕ
listed_at table reference =
    option_map_or (λ (v : Vec ℕ Global). v.items) (get nat_cmp table reference) []

-- the table has the elements that name a reference in `clocks`
abbrev pub ListsFollowers : List Node → (ℕ → List ℕ) → Type 0
ListsFollowers t listed = (k reference : ℕ) → Contains (listed reference) k ↔ Follows t k reference

-- the same of the elements below n
abbrev pub ListsBelow : List Node → ℕ → (ℕ → List ℕ) → Type 0
ListsBelow t n listed =
    (k reference : ℕ) → Contains (listed reference) k ↔ ((k < n) × Follows t k reference)

-- the element is put under each of the references
abbrev pub PutsUnder : List ℕ → ℕ → (ℕ → List ℕ) → (ℕ → List ℕ) → Type 0
PutsUnder references node old new =
    (k q : ℕ) → Contains (new q) k ↔ (Contains (old q) k ⊎ ((k ≡ node) × Contains references q))

-- whether an element is marked
abbrev pub is_marked : List Bool → ℕ → Bool
is_marked marks k = slice_index_or marks k false

-- what it does to mark elements, where the references of the Clocks that are newly marked go to the work that is left
pub record Marks (t : List Node) (elements : List ℕ) (old new : List Bool)
    (left more : List ℕ) : Type 0 where
  pub same_length : length new ≡ length old
  pub marked : (k : ℕ) → Contains elements k → k < length old → IsTrue (is_marked new k)
  pub kept : (k : ℕ) → IsTrue (is_marked old k) → IsTrue (is_marked new k)
  pub no_other : (k : ℕ) → IsTrue (is_marked new k) →
      IsTrue (is_marked old k) ⊎ Contains elements k
  pub told : (k reference : ℕ) → IsTrue (is_marked new k) → clock_key t k ≡ Some reference →
      IsTrue (is_marked old k) ⊎ Contains more reference
  pub left_kept : (reference : ℕ) → Contains left reference → Contains more reference
  pub left_only : (reference : ℕ) → Contains more reference → Contains left reference ⊎
      ((k : ℕ) × Contains elements k × (clock_key t k ≡ Some reference))
  pub less : 2 * count_by not new + length more ≤ 2 * count_by not old + length left
