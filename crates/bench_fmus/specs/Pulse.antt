-- The machine `pulse`: its changing Clock under reference 1 ticks first as many counts after the start as the parameter
-- under reference 3 says, and after each tick as many later as that under 2 says, and one more for each tick before. The
-- output under reference 4 counts the ticks. Numbers are read as counts.
use Rattle.std.specs.Prelude.{ℕ, ◌+◌, ◌-◌, ◌^◌, ◌==◌, min, List, ℤ, false, None, if◌then◌else◌}
use Rattle.clock_fraction.specs.declared.fraction.Fraction.{Fraction}
use Rattle.value_types.specs.declared.shape.Shape.{Shape}
use Rattle.fmi_calls.specs.declared.call.Call.{Call}
use Rattle.fmi_calls.specs.declared.call.Call.TheVariants as C
use Rattle.fmi_calls.specs.declared.call.Interval.{Interval}
use Rattle.fmi_calls.specs.declared.call.Interval.TheVariants.{NotYetKnown, Changed}
use Rattle.bench_fmus.specs.BuiltIn.{Behaviour, Numbers, count_at, is_ticking, no_fraction, one_more, value_of}
use Rattle.bench_fmus.specs.Wrapping.{count_of}

abbrev pub pulse_interval : Shape → Numbers → List ℤ → ℕ → Interval
pulse_interval shape n values reference =
    if reference == 1 then Changed (record {
      counter =
          min (count_of n.count + count_of (value_of shape.variables values 2)) (2 ^ 64 - 1);
      resolution = shape.resolution;
    }) else NotYetKnown

abbrev pub pulse_shift : Shape → List ℤ → ℕ → Fraction
pulse_shift shape values reference =
    if reference == 1 then record {
      counter = count_of (value_of shape.variables values 3);
      resolution = shape.resolution;
    } else no_fraction

-- a tick is counted where its instant ends
abbrev pub pulsed : Shape → Numbers → List ℤ → Call → Numbers
pulsed shape n values C.Update = if is_ticking shape.variables values 1 then one_more n else n
pulsed shape n values _ = n

abbrev pub pulse : Behaviour
pulse = record {
  shown = count_at 4;
  early_end = λ shape values at size. None;
  asks_to_end = λ variables values size. false;
  asks_again = λ variables n values. false;
  event_time = λ variables n values. None;
  interval = pulse_interval;
  shift = pulse_shift;
  changed = pulsed;
}
