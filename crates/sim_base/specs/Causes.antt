-- A count of faults, before a call and after it. It stands still at its last value.
use Rattle.std.specs.Prelude.{◌≡◌, ℕ, ◌+◌, ◌-◌, ◌^◌, ◌≤◌, min, max, Result, OnOk, OnErr}

-- one fault more: the count rises by one, and never falls
abbrev pub one_more : ℕ → ℕ
one_more faults = max faults (min (faults + 1) (2 ^ 64 - 1))

-- the count rose, or stands at its last value
abbrev pub Rose : ℕ → ℕ → Type 0
Rose before after = min (before + 1) (2 ^ 64 - 1) ≤ after

-- the count never falls, rises at a fault alone, and a fault is answered only where it rose
pub record HasCause {T E : Type 0} (before after : ℕ) (result : Result T E) : Type 0 where
  pub later : before ≤ after
  pub quiet : OnOk result (after ≡ before)
  pub rose : OnErr result (Rose before after)
