-- The machine `sampler`: its output under reference 3 is its input under reference 2, both of which its input Clock under
-- reference 1 clocks. Where the output doesn't depend on the input, it shows what that was at the tick before. The Clock's
-- interval in seconds is the parameter under reference 4 over that under 5, and its shift that under 6 over that under 5.
use Rattle.std.specs.Prelude.{ℕ, List, ℤ, ◌==◌, false, None, if◌then◌else◌}
use Rattle.clock_fraction.specs.declared.fraction.Fraction.{Fraction}
use Rattle.value_types.specs.declared.shape.Shape.{Shape}
use Rattle.fmi_calls.specs.declared.call.Call.{Call}
use Rattle.fmi_calls.specs.declared.call.Call.TheVariants as C
use Rattle.fmi_calls.specs.declared.call.Interval.{Interval}
use Rattle.fmi_calls.specs.declared.call.Interval.TheVariants.{NotYetKnown, Changed}
use Rattle.bench_fmus.specs.BuiltIn.{Behaviour, Numbers, fraction_at, is_ticking, no_fraction, seen_by, value_of}
use Rattle.bench_fmus.specs.Wrapping.{wrapped_int64}

-- the input is held where an instant ends at which the Clock ticks
abbrev pub sampled : Shape → Numbers → List ℤ → Call → Numbers
sampled shape n values C.Update =
    if is_ticking shape.variables values 1
    then record n { held = wrapped_int64 (value_of shape.variables values 2) } else n
sampled shape n values _ = n

abbrev pub sampling_interval : Shape → Numbers → List ℤ → ℕ → Interval
sampling_interval shape n values reference =
    if reference == 1 then Changed (fraction_at shape.variables values 4 5) else NotYetKnown

abbrev pub sampling_shift : Shape → List ℤ → ℕ → Fraction
sampling_shift shape values reference =
    if reference == 1 then fraction_at shape.variables values 6 5 else no_fraction

abbrev pub sampler : Behaviour
sampler = record {
  shown =
      λ shape n values reference. if reference == 3 then seen_by shape n values 3 2
      else value_of shape.variables values reference;
  early_end = λ shape values at size. None;
  asks_to_end = λ variables values size. false;
  asks_again = λ variables n values. false;
  event_time = λ variables n values. None;
  interval = sampling_interval;
  shift = sampling_shift;
  changed = sampled;
}
