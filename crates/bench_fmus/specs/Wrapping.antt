-- Numbers wrapped into a range, as two's complement leaves them, and numbers that are read as counts.
use Rattle.std.specs.Prelude.{ℕ, ◌-◌, ◌^◌, min, ℤ, pos, negsuc, ◌+ℤ◌, ◌-ℤ◌}
use Rattle.std.specs.Int.{int_rem_euclid}
use Rattle.value_types.specs.Values.{least_of, greatest_of}
use Rattle.value_types.specs.declared.values.PortType.{PortType}

-- the number of a range that differs from a number by a multiple of the range's size
abbrev pub wrapped_between : ℤ → ℤ → ℤ → ℤ
wrapped_between least greatest z = least +ℤ int_rem_euclid (z -ℤ least) (greatest -ℤ least +ℤ pos 1)

-- a number wrapped into a type
abbrev pub wrapped : PortType → ℤ → ℤ
wrapped kind z = wrapped_between (least_of kind) (greatest_of kind) z

-- a number wrapped into Int64
abbrev pub wrapped_int64 : ℤ → ℤ
wrapped_int64 z = wrapped_between (negsuc (2 ^ 63 - 1)) (pos (2 ^ 63 - 1)) z

-- a number read as a count of 64 bits: a negative one as 0, one that is too great as the greatest
abbrev pub count_of : ℤ → ℕ
count_of (pos n) = min n (2 ^ 64 - 1)
count_of (negsuc n) = 0
