use Rattle.std.proofs.Common.{◌≡◌, ℕ, ◌-◌, ◌*◌, ◌^◌, ◌≤◌, length, take}
use Rattle.std.specs.Str.Parse.{digits_value_after}
use Rattle.clock_fraction.proofs.digits.significant_len.Given as goal

abbrev pub invariant-loop-len : goal.invariant-loop-len
invariant-loop-len l =
    (l.len ≤ length l.digits) × ((n : ℕ) → digits_value_after 10 n l.digits ≡ digits_value_after 10 n (take l.len l.digits) * 10 ^ (length l.digits - l.len))

abbrev pub decreases-loop-len : goal.decreases-loop-len
decreases-loop-len l = l.len
