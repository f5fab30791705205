-- The machine `settle`: an Update asks for another where there were fewer before it, since Event Mode was entered, than
-- the parameter under reference 1 says. Their count is the output under reference 2.
use Rattle.std.specs.Prelude.{List, ℤ, pos, int_lt, false, None}
use Rattle.value_types.specs.declared.shape.Shape.{Shape}
use Rattle.fmi_calls.specs.declared.call.Call.{Call}
use Rattle.fmi_calls.specs.declared.call.Call.TheVariants as C
use Rattle.fmi_calls.specs.declared.call.Interval.TheVariants.{NotYetKnown}
use Rattle.bench_fmus.specs.BuiltIn.{Behaviour, Numbers, count_at, no_fraction, one_more, value_of}

-- EnterEvent begins the count anew
abbrev pub updated : Shape → Numbers → List ℤ → Call → Numbers
updated shape n values C.Update = one_more n
updated shape n values C.EnterEvent = record n { count = pos 0 }
updated shape n values _ = n

abbrev pub settle : Behaviour
settle = record {
  shown = count_at 2;
  early_end = λ shape values at size. None;
  asks_to_end = λ variables values size. false;
  asks_again = λ variables n values. int_lt n.count (value_of variables values 1);
  event_time = λ variables n values. None;
  interval = λ shape n values reference. NotYetKnown;
  shift = λ shape values reference. no_fraction;
  changed = updated;
}
