-- Of several elements of one sort, or with one key, the first counts.
use Rattle.std.specs.Prelude.{◌≡◌, ℕ, ◌<◌, Bool, true, Option, Some, None}

-- ---- sorts

-- it is of the sort, and no element before it is
abbrev pub IsFirst : (ℕ → Bool) → ℕ → Type 0
IsFirst sort k = (sort k ≡ true) × ((j : ℕ) → j < k → sort j ≡ true → ⊥)

-- what is found of a sort: nothing where no element is of it, and else the first
abbrev pub FindsFirst : (ℕ → Bool) → Option ℕ → Type 0
FindsFirst sort None = (k : ℕ) → sort k ≡ true → ⊥
FindsFirst sort (Some k) = IsFirst sort k

-- ---- keys

-- it has the key, and no element before it does
abbrev pub IsFirstWith : {A : Type 0} → (ℕ → Option A) → A → ℕ → Type 0
IsFirstWith key x k = (key k ≡ Some x) × ((j : ℕ) → j < k → key j ≡ Some x → ⊥)

-- an element before this one has its key
abbrev pub IsRepeated : {A : Type 0} → (ℕ → Option A) → ℕ → Type 0
IsRepeated {A} key k = (x : A) × (key k ≡ Some x) × ((j : ℕ) × (j < k) × (key j ≡ Some x))

-- some element has the key
abbrev pub IsHeld : {A : Type 0} → (ℕ → Option A) → A → Type 0
IsHeld key x = (k : ℕ) × (key k ≡ Some x)

-- ---- tables

-- what is found of a key: nothing where no element has it, and else the first element with it
abbrev pub Finds : {A : Type 0} → (ℕ → Option A) → A → Option ℕ → Type 0
Finds key x None = IsHeld key x → ⊥
Finds key x (Some k) = IsFirstWith key x k

-- the table finds the first element of each key
abbrev pub IsTable : {A : Type 0} → (ℕ → Option A) → (A → Option ℕ) → Type 0
IsTable {A} key found = (x : A) → Finds key x (found x)

-- the same of the elements below n
abbrev pub FindsBelow : {A : Type 0} → (ℕ → Option A) → ℕ → A → Option ℕ → Type 0
FindsBelow key n x None = (k : ℕ) → k < n → key k ≡ Some x → ⊥
FindsBelow key n x (Some k) = IsFirstWith key x k

abbrev pub IsTableBelow : {A : Type 0} → (ℕ → Option A) → ℕ → (A → Option ℕ) → Type 0
IsTableBelow {A} key n found = (x : A) → FindsBelow key n x (found x)
