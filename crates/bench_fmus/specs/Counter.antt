-- The machine `counter`: each step adds the parameter under reference 1 to a count, which is the output under
-- reference 2. A step as long as the parameter under reference 3, where that is above 0, asks to end the simulation.
use Rattle.std.specs.Prelude.{List, ℤ, pos, ◌+ℤ◌, int_lt, int_le, false, ◌&&◌, None}
use Rattle.value_types.specs.declared.shape.Shape.{Shape}
use Rattle.fmi_calls.specs.declared.call.Call.{Call}
use Rattle.fmi_calls.specs.declared.call.Call.TheVariants as C
use Rattle.fmi_calls.specs.declared.call.Interval.TheVariants.{NotYetKnown}
use Rattle.bench_fmus.specs.BuiltIn.{Behaviour, Numbers, count_at, no_fraction, value_of}
use Rattle.bench_fmus.specs.Wrapping.{wrapped_int64}

abbrev pub counted : Shape → Numbers → List ℤ → Call → Numbers
counted shape n values (C.DoStep at size) =
    record n { count = wrapped_int64 (n.count +ℤ value_of shape.variables values 1) }
counted shape n values _ = n

abbrev pub counter : Behaviour
counter = record {
  shown = count_at 2;
  early_end = λ shape values at size. None;
  asks_to_end =
      λ variables values size. int_lt (pos 0) (value_of variables values 3) &&
      int_le (value_of variables values 3) (pos size);
  asks_again = λ variables n values. false;
  event_time = λ variables n values. None;
  interval = λ shape n values reference. NotYetKnown;
  shift = λ shape values reference. no_fraction;
  changed = counted;
}
