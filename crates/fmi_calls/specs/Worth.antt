-- Which replies a call may get, and what a reply is worth (FMI 3.0, 2.2.3: status returned by functions; 4.2.1.2: fmi3DoStep; 2.2.9: Clocks, fmi3GetInterval and fmi3GetShift).
use Rattle.std.specs.Prelude.{ℕ, ◌+◌, Bool, true, false, nat_lt, nat_le, ◌&&◌, ◌||◌, not, if◌then◌else◌, is_some, Option, Some}
use Rattle.std.specs.Option.{option_map, option_map_or}
use Rattle.clock_fraction.specs.Counts.{counts_of}
use Rattle.clock_fraction.specs.declared.fraction.Fraction.{Fraction}
use Rattle.value_types.specs.Shape.{timing_at}
use Rattle.value_types.specs.Values.{word_value}
use Rattle.value_types.specs.declared.shape.ClockTiming.{ClockTiming}
use Rattle.value_types.specs.declared.shape.IntervalVariability.{IntervalVariability}
use Rattle.value_types.specs.declared.shape.IntervalVariability.TheVariants.{Countdown}
use Rattle.value_types.specs.declared.shape.Shape.{Shape}
use Rattle.fmi_calls.specs.declared.call.Call.{Call}
use Rattle.fmi_calls.specs.declared.call.Call.TheVariants as C
use Rattle.fmi_calls.specs.declared.call.Content.{Content}
use Rattle.fmi_calls.specs.declared.call.Content.TheVariants as A
use Rattle.fmi_calls.specs.declared.call.Interval.{Interval}
use Rattle.fmi_calls.specs.declared.call.Interval.TheVariants.{NotYetKnown, Unchanged, Changed}
use Rattle.fmi_calls.specs.declared.call.Reply.{Reply}
use Rattle.fmi_calls.specs.declared.call.Reply.TheVariants as R
use Rattle.fmi_calls.specs.declared.call.Grade.{Grade}
use Rattle.fmi_calls.specs.declared.call.Grade.TheVariants.{Good, Refused, Misreply}
use Rattle.fmi_calls.specs.Kinds.{kind_of}
use Rattle.fmi_calls.specs.KindFacts.{same_kind}

abbrev both_or_neither : Bool → Bool → Bool
both_or_neither true b = b
both_or_neither false b = not b

-- a step ends after its beginning and at its bound at most, has the early flag exactly where it ends before that, and may do so only where early return was allowed
abbrev pub is_step_end : Shape → ℕ → ℕ → Bool → ℕ → Bool
is_step_end shape at size early end =
    nat_lt at end && nat_le end (at + size) && both_or_neither early (nat_lt end (at + size)) &&
    (shape.might_return_early || not early)

-- the fraction of a second is a whole number of counts, and at least so many
abbrev pub has_counts : ℕ → Fraction → ℕ → Bool
has_counts least fraction per_second =
    option_map_or (λ n. nat_le least n) (counts_of fraction per_second) false

-- a countdown Clock has no interval yet, the one that it had, or a new one, which has whole counts
abbrev pub is_countdown_interval : Interval → ℕ → Bool
is_countdown_interval NotYetKnown per_second = true
is_countdown_interval (Unchanged fraction) per_second = true
is_countdown_interval (Changed fraction) per_second = has_counts 0 fraction per_second

-- any other Clock has an interval of at least one count
abbrev pub is_known_interval : Interval → ℕ → Bool
is_known_interval NotYetKnown per_second = false
is_known_interval (Unchanged fraction) per_second = has_counts 1 fraction per_second
is_known_interval (Changed fraction) per_second = has_counts 1 fraction per_second

-- how the intervals of the Clock under a reference vary
abbrev pub variability_at : Shape → ℕ → Option IntervalVariability
variability_at shape reference =
    option_map (λ (c : ClockTiming). c.variability) (timing_at shape.clocks reference)

abbrev pub is_interval : Option IntervalVariability → Interval → ℕ → Bool
is_interval (Some Countdown) interval per_second = is_countdown_interval interval per_second
is_interval _ interval per_second = is_known_interval interval per_second

-- of a reply of the call's kind with OK or Warning: whether it is one that the call may get. Batches are agreed only where they were asked for
abbrev pub is_valid : Shape → Call → Content → Bool
is_valid shape (C.DoStep at size) (A.DoStep event_needed terminate early end) =
    is_step_end shape at size early end
is_valid shape (C.Get kind reference) (A.Get word) = is_some (word_value kind word)
is_valid shape (C.Instantiate event_mode early_return asked) (A.Instantiate agreed) =
    asked || not agreed
is_valid shape (C.EnterInitialization start stop) A.EnterInitialization = true
is_valid shape C.ExitInitialization A.ExitInitialization = true
is_valid shape C.EnterEvent A.EnterEvent = true
is_valid shape C.EnterStep A.EnterStep = true
is_valid shape C.Update (A.Update again terminate event_time) = true
is_valid shape (C.Set kind reference value) A.Set = true
is_valid shape (C.GetClock reference) (A.GetClock word) = nat_le word 1
is_valid shape (C.SetClock reference) A.SetClock = true
is_valid shape (C.GetInterval reference) (A.GetInterval interval) =
    is_interval (variability_at shape reference) interval shape.resolution
is_valid shape (C.GetShift reference) (A.GetShift shift) = has_counts 0 shift shape.resolution
is_valid shape C.Save A.Save = true
is_valid shape C.Restore A.Restore = true
is_valid shape C.Free A.Free = true
is_valid shape C.Serialize (A.Serialize length) = true
is_valid shape (C.Deserialize length point stop) A.Deserialize = true
is_valid shape C.Terminate A.Terminate = true
is_valid shape C.FreeInstance A.FreeInstance = true
is_valid shape call content = false

-- a reply of another kind is an invalid reply; else Discard, Error and Fatal are refusals; else a reply that isn't valid is an invalid reply
abbrev pub grade_of : Shape → Call → Reply → Grade
grade_of shape call (R.Done is_warning content) =
    if is_valid shape call content then Good else Misreply
grade_of shape call (R.Refused kind status) =
    if same_kind kind (kind_of call) then Refused else Misreply
