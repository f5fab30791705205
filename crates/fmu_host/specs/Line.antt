-- The arguments of the command line: the directory of an FMU, and how many counts a second has.
use Rattle.std.specs.Prelude.{◌≡◌, ℕ, ◌^◌, ◌<◌, ◌≤◌, List, [], ◌∷◌, length, decimal}
use Rattle.fmu_host.specs.declared.words.HostLine.{HostLine}

pub record Line : Type 0 where
  pub directory : List ℕ
  pub resolution : ℕ

-- the arguments are a directory, which isn't empty, and a resolution from 1 to 2^62, in digits without a leading zero
pub record IsLine (words : List (List ℕ)) (line : Line) : Type 0 where
  pub spelled : words ≡ line.directory ∷ decimal line.resolution ∷ []
  pub directory : 0 < length line.directory
  pub least : 1 ≤ line.resolution
  pub most : line.resolution ≤ 2 ^ 62

-- they are none
abbrev pub IsNoLine : List (List ℕ) → Type 0
IsNoLine words = (line : Line) → IsLine words line → ⊥

-- the line that a value tells
abbrev pub line_of : HostLine → Line
line_of l = record { directory = l.directory.now; resolution = l.resolution }
