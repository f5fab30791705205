-- The machine `waker`: each Update before the point that the parameter under reference 1 says asks for an event there, and
-- those at it are counted. The count is the output under reference 2.
use Rattle.std.specs.Prelude.{ℕ, List, ℤ, int_lt, false, Option, Some, None, if◌then◌else◌}
use Rattle.std.specs.Ordering.{int_eq}
use Rattle.value_types.specs.declared.shape.Shape.{Shape}
use Rattle.value_types.specs.declared.shape.Variable.{Variable}
use Rattle.fmi_calls.specs.declared.call.Call.{Call}
use Rattle.fmi_calls.specs.declared.call.Call.TheVariants as C
use Rattle.fmi_calls.specs.declared.call.Interval.TheVariants.{NotYetKnown}
use Rattle.bench_fmus.specs.BuiltIn.{Behaviour, Numbers, count_at, no_fraction, one_more, value_of}
use Rattle.bench_fmus.specs.Wrapping.{count_of}

abbrev pub waking_time : List Variable → Numbers → List ℤ → Option ℕ
waking_time variables n values =
    if int_lt n.point (value_of variables values 1)
    then Some (count_of (value_of variables values 1)) else None

abbrev pub woken : Shape → Numbers → List ℤ → Call → Numbers
woken shape n values C.Update =
    if int_eq n.point (value_of shape.variables values 1) then one_more n else n
woken shape n values _ = n

abbrev pub waker : Behaviour
waker = record {
  shown = count_at 2;
  early_end = λ shape values at size. None;
  asks_to_end = λ variables values size. false;
  asks_again = λ variables n values. false;
  event_time = waking_time;
  interval = λ shape n values reference. NotYetKnown;
  shift = λ shape values reference. no_fraction;
  changed = woken;
}
