-- Values of a type and their words (FMI 3.0, 2.2.2: the integer types of a fixed width; a Boolean or a Clock is 0 or 1).
use Rattle.std.specs.Prelude.{ℕ, ◌-◌, ◌^◌, ℤ, pos, negsuc, ◌≤ℤ◌, int_le, Bool, true, false, ◌&&◌, Option, Some, None, if◌then◌else◌}
use Rattle.std.specs.Int.{w64, cast_signed}
use Rattle.value_types.specs.declared.values.PortType.{PortType}
use Rattle.value_types.specs.declared.values.PortType.TheVariants.{Int8, UInt8, Int16, UInt16, Int32, UInt32, Int64, UInt64, Boolean, Enumeration, Clock}

-- the least value of a type
abbrev pub least_of : PortType → ℤ
least_of Int8 = negsuc (2 ^ 7 - 1)
least_of UInt8 = pos 0
least_of Int16 = negsuc (2 ^ 15 - 1)
least_of UInt16 = pos 0
least_of Int32 = negsuc (2 ^ 31 - 1)
least_of UInt32 = pos 0
least_of Int64 = negsuc (2 ^ 63 - 1)
least_of UInt64 = pos 0
least_of Boolean = pos 0
least_of Enumeration = negsuc (2 ^ 63 - 1)
least_of Clock = pos 0

-- the greatest value of a type
abbrev pub greatest_of : PortType → ℤ
greatest_of Int8 = pos (2 ^ 7 - 1)
greatest_of UInt8 = pos (2 ^ 8 - 1)
greatest_of Int16 = pos (2 ^ 15 - 1)
greatest_of UInt16 = pos (2 ^ 16 - 1)
greatest_of Int32 = pos (2 ^ 31 - 1)
greatest_of UInt32 = pos (2 ^ 32 - 1)
greatest_of Int64 = pos (2 ^ 63 - 1)
greatest_of UInt64 = pos (2 ^ 64 - 1)
greatest_of Boolean = pos 1
greatest_of Enumeration = pos (2 ^ 63 - 1)
greatest_of Clock = pos 1

-- the type has negative values
abbrev pub is_signed : PortType → Bool
is_signed Int8 = true
is_signed UInt8 = false
is_signed Int16 = true
is_signed UInt16 = false
is_signed Int32 = true
is_signed UInt32 = false
is_signed Int64 = true
is_signed UInt64 = false
is_signed Boolean = false
is_signed Enumeration = true
is_signed Clock = false

-- the value is in the range of the type
abbrev pub Fits : PortType → ℤ → Type 0
Fits kind value = (least_of kind ≤ℤ value) × (value ≤ℤ greatest_of kind)

-- the 64-bit two's complement of a value
abbrev pub word_of : ℤ → ℕ
word_of (pos n) = n
word_of (negsuc n) = 2 ^ 64 - 1 - n

-- whether a value is in the range of the type
abbrev pub is_fitting : PortType → ℤ → Bool
is_fitting kind value = int_le (least_of kind) value && int_le value (greatest_of kind)

-- the number that a word stands for in the type: the two's complement for a signed one
abbrev pub number_of : PortType → ℕ → ℤ
number_of kind word = if is_signed kind then cast_signed w64 word else pos word

-- the value of a word, where the word is right for the type: that of some value in its range
abbrev pub word_value : PortType → ℕ → Option ℤ
word_value kind word = if is_fitting kind (number_of kind word) then Some (number_of kind word) else None
