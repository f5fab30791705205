-- The machine `gain`: its output under reference 3 is the input under reference 2 times the factor under reference 1.
-- An input that the output doesn't depend on counts with its value when time last went on.
use Rattle.std.specs.Prelude.{List, ℤ, false, ◌*ℤ◌, ◌==◌, None, if◌then◌else◌}
use Rattle.value_types.specs.Shape.{is_at, is_input}
use Rattle.value_types.specs.declared.shape.Variable.{Variable}
use Rattle.value_types.specs.declared.shape.Shape.{Shape}
use Rattle.fmi_calls.specs.declared.call.Call.{Call}
use Rattle.fmi_calls.specs.declared.call.Call.TheVariants as C
use Rattle.fmi_calls.specs.declared.call.Interval.TheVariants.{NotYetKnown}
use Rattle.bench_fmus.specs.BuiltIn.{Behaviour, Numbers, no_fraction, seen_by, value_of}
use Rattle.bench_fmus.specs.Wrapping.{wrapped_int64}

-- the factor is a parameter, or an input as the other one is
abbrev pub factor : Shape → Numbers → List ℤ → ℤ
factor shape n values =
    if is_at (λ (v : Variable). is_input v.causality) shape.variables 1
    then seen_by shape n values 3 1 else value_of shape.variables values 1

-- the product, of which 64 bits are kept: a type has no more
abbrev pub product : Shape → Numbers → List ℤ → ℤ
product shape n values = wrapped_int64 (factor shape n values *ℤ seen_by shape n values 3 2)

-- the input is held where Initialization Mode, an instant or a step ends
abbrev pub holding : Shape → Numbers → List ℤ → Call → Numbers
holding shape n values C.ExitInitialization =
    record n { held = wrapped_int64 (value_of shape.variables values 2) }
holding shape n values C.Update =
    record n { held = wrapped_int64 (value_of shape.variables values 2) }
holding shape n values (C.DoStep at size) =
    record n { held = wrapped_int64 (value_of shape.variables values 2) }
holding shape n values _ = n

abbrev pub gain : Behaviour
gain = record {
  shown =
      λ shape n values reference. if reference == 3 then product shape n values
      else value_of shape.variables values reference;
  early_end = λ shape values at size. None;
  asks_to_end = λ variables values size. false;
  asks_again = λ variables n values. false;
  event_time = λ variables n values. None;
  interval = λ shape n values reference. NotYetKnown;
  shift = λ shape values reference. no_fraction;
  changed = holding;
}
