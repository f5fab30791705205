-- Names in a line of text: the bytes that would part or end its fields are escaped.
use Rattle.std.specs.Prelude.{ℕ, ◌+◌, ◌/◌, ◌%◌, Bool, ◌==◌, ◌||◌, nat_lt, if◌then◌else◌, List, [], ◌∷◌}
use Rattle.std.specs.List.{flat_map}

-- the upper-case hexadecimal digit of a number below 16
abbrev pub hex_digit : ℕ → ℕ
hex_digit n = if nat_lt n 10 then 48 + n else 55 + n

-- controls and the space, the byte 127, and `%` itself
abbrev pub is_escaped : ℕ → Bool
is_escaped byte = nat_lt byte 33 || byte == 127 || byte == 37

-- a byte as it is, or `%` and its two hexadecimal digits
abbrev pub escaped_byte : ℕ → List ℕ
escaped_byte byte = if is_escaped byte then 37 ∷ hex_digit (byte / 16) ∷ hex_digit (byte % 16) ∷ [] else byte ∷ []

-- each byte of a name in turn
abbrev pub escaped : List ℕ → List ℕ
escaped name = flat_map escaped_byte name
