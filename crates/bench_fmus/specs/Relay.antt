-- The machine `relay`: its Clock under reference 2 ticks in each instant in which the input under reference 1 isn't what
-- it was in the instant before, and clocks the output under reference 3, which is the input. An input that an output
-- doesn't depend on counts with the value of the instant before.
use Rattle.std.specs.Prelude.{ℕ, List, ℤ, pos, Bool, not, ◌==◌, false, None, if◌then◌else◌}
use Rattle.std.specs.Ordering.{int_eq}
use Rattle.value_types.specs.declared.shape.Shape.{Shape}
use Rattle.fmi_calls.specs.declared.call.Call.{Call}
use Rattle.fmi_calls.specs.declared.call.Call.TheVariants as C
use Rattle.fmi_calls.specs.declared.call.Interval.TheVariants.{NotYetKnown}
use Rattle.bench_fmus.specs.BuiltIn.{Behaviour, Numbers, no_fraction, seen_by, value_of}
use Rattle.bench_fmus.specs.Wrapping.{wrapped_int64}

-- the words of 64 bits of two numbers differ
abbrev pub differ : ℤ → ℤ → Bool
differ a b = not (int_eq (wrapped_int64 a) (wrapped_int64 b))

-- what the references show, before it is wrapped into their types
abbrev pub relayed : Shape → Numbers → List ℤ → ℕ → ℤ
relayed shape n values reference =
    if reference == 2 then (if differ (seen_by shape n values 2 1) n.held then pos 1 else pos 0)
    else (if reference == 3 then seen_by shape n values 3 1
    else value_of shape.variables values reference)

-- the input is held where an instant ends
abbrev pub passed_on : Shape → Numbers → List ℤ → Call → Numbers
passed_on shape n values C.Update =
    record n { held = wrapped_int64 (value_of shape.variables values 1) }
passed_on shape n values _ = n

abbrev pub relay : Behaviour
relay = record {
  shown = relayed;
  early_end = λ shape values at size. None;
  asks_to_end = λ variables values size. false;
  asks_again = λ variables n values. false;
  event_time = λ variables n values. None;
  interval = λ shape n values reference. NotYetKnown;
  shift = λ shape values reference. no_fraction;
  changed = passed_on;
}
