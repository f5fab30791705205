-- The 24 bytes that each frame begins with: kind, type or status, flags and 0 in one byte each, a reference or qualifier in 4, and two numbers in 8, each with its most significant byte first.
use Rattle.std.specs.Prelude.{ℕ, ◌<◌, ◌^◌, Bool, List, [], ◌∷◌, ◌++◌, if◌then◌else◌}
use Rattle.std.specs.Int.{w32, w64, to_be_bytes}
use Rattle.link_frames.specs.declared.head.Head.{Head}

-- the numbers by their names
abbrev pub head : ℕ → ℕ → ℕ → ℕ → ℕ → ℕ → Head
head kind detail flags reference first last = record {
  kind = kind;
  detail = detail;
  flags = flags;
  reference = reference;
  first = first;
  last = last;
}

-- the bytes of the numbers
unfoldable pub spelling : Head → List ℕ
spelling h =
    (h.kind ∷ h.detail ∷ h.flags ∷ 0 ∷ []) ++
    (to_be_bytes w32 h.reference ++ (to_be_bytes w64 h.first ++ to_be_bytes w64 h.last))

-- the numbers have room in their bytes
pub record InRange (h : Head) : Type 0 where
  pub reference : h.reference < 2 ^ 32
  pub first : h.first < 2 ^ 64
  pub last : h.last < 2 ^ 64

-- the seven numbers
abbrev pub numbers_of : Head → List ℕ
numbers_of h = h.kind ∷ h.detail ∷ h.flags ∷ 0 ∷ h.reference ∷ h.first ∷ h.last ∷ []

-- what a flag adds to the flags
abbrev pub flag : Bool → ℕ → ℕ
flag is_set worth = if is_set then worth else 0
