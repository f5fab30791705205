-- A heap of Clocks by their next points, with the place of each clock kept beside it.
use Rattle.std.specs.Prelude.{◌≡◌, ℕ, ◌+◌, ◌*◌, ◌<◌, ◌≤◌, List, length, slice_index}

-- the clock at each place stands there, and each clock's place has it
pub record IsPlaced (n : ℕ) (order places : List ℕ) : Type 0 where
  pub order_len : length order ≡ n
  pub places_len : length places ≡ n
  pub clocks : (i : ℕ) → i < n → slice_index order i < n
  pub within : (c : ℕ) → c < n → slice_index places c < n
  pub there : (i : ℕ) → i < n → slice_index places (slice_index order i) ≡ i
  pub back : (c : ℕ) → c < n → slice_index order (slice_index places c) ≡ c

-- the point of the clock at a place
abbrev pub key_at : List ℕ → List ℕ → ℕ → ℕ
key_at points order i = slice_index points (slice_index order i)

-- j is a place below i
pub record IsBelow (i j : ℕ) : Type 0 where
  pub low : 2 * i < j
  pub high : j ≤ 2 * i + 2

-- no place has a later point than those below it
abbrev pub IsOrdered : ℕ → (ℕ → ℕ) → Type 0
IsOrdered n key = (i j : ℕ) → j < n → IsBelow i j → key i ≤ key j

-- as IsOrdered, but what stands at the hole may be later than what is below it
pub record IsOrderedButDown (n hole : ℕ) (key : ℕ → ℕ) : Type 0 where
  pub others : (i j : ℕ) → j < n → IsBelow i j → (i ≡ hole → ⊥) → key i ≤ key j
  pub across : (i j : ℕ) → j < n → IsBelow i hole → IsBelow hole j → key i ≤ key j

-- as IsOrdered, but what stands at the hole may be earlier than what is above it
pub record IsOrderedButUp (n hole : ℕ) (key : ℕ → ℕ) : Type 0 where
  pub others : (i j : ℕ) → j < n → IsBelow i j → (j ≡ hole → ⊥) → key i ≤ key j
  pub across : (i j : ℕ) → j < n → IsBelow i hole → IsBelow hole j → key i ≤ key j

pub record IsHeap (points order places : List ℕ) : Type 0 where
  pub placed : IsPlaced (length points) order places
  pub ordered : IsOrdered (length points) (key_at points order)
