-- The machine `alarm`: where early return is allowed, a step over the point that the parameter under reference 1 says
-- ends there, and is counted. The count is the output under reference 2.
use Rattle.std.specs.Prelude.{ℕ, ◌+◌, List, ℤ, pos, nat_abs, int_lt, Bool, false, ◌&&◌, Option, Some, None, if◌then◌else◌}
use Rattle.value_types.specs.declared.shape.Shape.{Shape}
use Rattle.fmi_calls.specs.declared.call.Call.{Call}
use Rattle.fmi_calls.specs.declared.call.Call.TheVariants as C
use Rattle.fmi_calls.specs.declared.call.Interval.TheVariants.{NotYetKnown}
use Rattle.bench_fmus.specs.BuiltIn.{Behaviour, Numbers, count_at, no_fraction, one_more, value_of}

-- the point is inside the step, which may end early
abbrev pub rings : Shape → List ℤ → ℕ → ℕ → Bool
rings shape values at size =
    shape.might_return_early && int_lt (pos at) (value_of shape.variables values 1) &&
    int_lt (value_of shape.variables values 1) (pos (at + size))

-- where the step ends early
abbrev pub rung_at : Shape → List ℤ → ℕ → ℕ → Option ℕ
rung_at shape values at size =
    if rings shape values at size then Some (nat_abs (value_of shape.variables values 1)) else None

abbrev pub rung : Shape → Numbers → List ℤ → Call → Numbers
rung shape n values (C.DoStep at size) = if rings shape values at size then one_more n else n
rung shape n values _ = n

abbrev pub alarm : Behaviour
alarm = record {
  shown = count_at 2;
  early_end = rung_at;
  asks_to_end = λ variables values size. false;
  asks_again = λ variables n values. false;
  event_time = λ variables n values. None;
  interval = λ shape n values reference. NotYetKnown;
  shift = λ shape values reference. no_fraction;
  changed = rung;
}
