-- The machine `timer`: at the point that the parameter under reference 1 says, it arms its countdown Clock under
-- reference 2, once, for as many counts later as the parameter under reference 4 says. The output under reference 3
-- counts the ticks.
use Rattle.std.specs.Prelude.{List, ℤ, pos, Bool, ◌==◌, false, None, if◌then◌else◌}
use Rattle.std.specs.Ordering.{int_eq}
use Rattle.value_types.specs.declared.shape.Shape.{Shape}
use Rattle.fmi_calls.specs.declared.call.Call.{Call}
use Rattle.fmi_calls.specs.declared.call.Call.TheVariants as C
use Rattle.fmi_calls.specs.declared.call.Interval.{Interval}
use Rattle.fmi_calls.specs.declared.call.Interval.TheVariants.{NotYetKnown, Unchanged, Changed}
use Rattle.bench_fmus.specs.BuiltIn.{Behaviour, Numbers, count_at, has_fired, is_ticking, no_fraction, one_more, value_of}
use Rattle.bench_fmus.specs.Wrapping.{count_of}

-- it is the point to arm the Clock
abbrev pub is_due : Shape → Numbers → List ℤ → Bool
is_due shape n values = int_eq n.point (value_of shape.variables values 1)

-- the Clock's interval is new at the point, not known before it, and unchanged once it was told
abbrev pub countdown : Shape → Numbers → List ℤ → Interval
countdown shape n values =
    if has_fired n then Unchanged no_fraction
    else (if is_due shape n values
    then Changed (record {
      counter = count_of (value_of shape.variables values 4);
      resolution = shape.resolution;
    }) else NotYetKnown)

-- a tick is counted
abbrev pub ticked : Shape → Numbers → List ℤ → Numbers
ticked shape n values = if is_ticking shape.variables values 2 then one_more n else n

-- at the end of an instant; at the point the interval was told
abbrev pub timed : Shape → Numbers → List ℤ → Call → Numbers
timed shape n values C.Update =
    if is_due shape n values then record (ticked shape n values) { fired = pos 1 }
    else ticked shape n values
timed shape n values _ = n

abbrev pub timer : Behaviour
timer = record {
  shown = count_at 3;
  early_end = λ shape values at size. None;
  asks_to_end = λ variables values size. false;
  asks_again = λ variables n values. false;
  event_time = λ variables n values. None;
  interval =
      λ shape n values reference. if reference == 2 then countdown shape n values else NotYetKnown;
  shift = λ shape values reference. no_fraction;
  changed = timed;
}
