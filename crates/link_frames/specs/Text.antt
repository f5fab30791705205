-- A text of so many bytes in UTF-8 (RFC 3629).
use Rattle.std.specs.Prelude.{◌≡◌, ℕ, Bool, false, nat_le, List, length, IsUtf8, if◌then◌else◌}
use Rattle.std.specs.Int.{is_in_range}

-- a text of so many bytes
pub record IsText (size : ℕ) (value : Unit {0}) (bytes : List ℕ) : Type 0 where
  pub size_is : length bytes ≡ size
  pub text : IsUtf8 bytes

-- whether this is the first byte of a character of two, three or four bytes, and so many bytes hold the character
abbrev pub has_room : ℕ → ℕ → Bool
has_room lead room =
    if is_in_range 0xC2 0xDF lead then nat_le 2 room
    else if is_in_range 0xE0 0xEF lead then nat_le 3 room
    else if is_in_range 0xF0 0xF4 lead then nat_le 4 room
    else false
