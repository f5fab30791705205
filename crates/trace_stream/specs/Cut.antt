-- What a stream of bytes gives line by line. A line is told without its line feed (10).
use Rattle.std.specs.Prelude.{◌≡◌, ℕ, ◌+◌, ◌-◌, ◌^◌, min, List, [], ◌∷◌, ◌++◌, Option, Some}
use Rattle.trace_reading.specs.Lines.{Lacks}

-- the number of the next line. It stands still at its last value
abbrev pub next_number : ℕ → ℕ
next_number n = min (n + 1) (2 ^ 64 - 1)

-- the bytes begin with the line and its line feed, and those after it are left
pub record IsCut (bytes line : List ℕ) (left : Option (List ℕ)) : Type 0 where
  pub rest : List ℕ
  pub left_is : left ≡ Some rest
  pub parts : bytes ≡ line ++ (10 ∷ rest)
  pub free : Lacks 10 line

-- what was left, where it is told, is cut into the line and what is left now
abbrev pub TakesLine : Option (List ℕ) → Option (List ℕ) → List ℕ → Type 0
TakesLine old new line = (bytes : List ℕ) → old ≡ Some bytes → IsCut bytes line new

-- what is left, where it is told, has no line feed
abbrev pub HasNoLine : Option (List ℕ) → Type 0
HasNoLine left = (bytes : List ℕ) → left ≡ Some bytes → Lacks 10 bytes

-- nothing was left, where it is told, and nothing is
abbrev pub IsSpent : Option (List ℕ) → Option (List ℕ) → Type 0
IsSpent old new = (bytes : List ℕ) → old ≡ Some bytes → (bytes ≡ []) × (new ≡ Some [])
