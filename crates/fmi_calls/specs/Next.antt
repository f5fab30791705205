-- The phase after a call with its reply, or with a fault in place of the reply (FMI 3.0, 4.2.1; 2.2.3 for Discard, Error and Fatal; 2.2.6: FMU state; 2.2.9: Clocks).
use Rattle.std.specs.Prelude.{◌≡◌, ℕ, ◌+◌, ◌-◌, ◌^◌, ◌==◌, Bool, true, false, not, if◌then◌else◌, min, List, length, replicate, set, Option, Some, None, unwrap_or}
use Rattle.std.specs.Option.{option_map_or}
use Rattle.value_types.specs.Shape.{place_of}
use Rattle.value_types.specs.declared.shape.Shape.{Shape}
use Rattle.fmi_calls.specs.declared.call.Call.{Call}
use Rattle.fmi_calls.specs.declared.call.Call.TheVariants as C
use Rattle.fmi_calls.specs.declared.call.Content.TheVariants as A
use Rattle.fmi_calls.specs.declared.call.Reply.{Reply}
use Rattle.fmi_calls.specs.declared.call.Reply.TheVariants as R
use Rattle.fmi_calls.specs.declared.call.BadStatus.{BadStatus}
use Rattle.fmi_calls.specs.declared.call.BadStatus.TheVariants.{Discard, Error, Fatal}
use Rattle.fmi_calls.specs.declared.call.Grade.{Grade}
use Rattle.fmi_calls.specs.declared.call.Grade.TheVariants.{Good, Refused, Misreply}
use Rattle.fmi_calls.specs.declared.phase.Phase.{Phase}
use Rattle.fmi_calls.specs.declared.phase.InstanceState.{InstanceState}
use Rattle.fmi_calls.specs.declared.phase.InstanceState.TheVariants.{Fresh, Instantiated, Initialization, Event, Step, Terminated, Dead, Lost, Gone}
use Rattle.fmi_calls.specs.Worth.{grade_of}
use Rattle.fmi_calls.specs.Kinds.{bad_status_of}

-- no variable is marked
abbrev pub unmarked : Shape → List Bool
unmarked shape = replicate (length shape.variables) false

-- the phase before any call
abbrev pub fresh : Shape → Phase
fresh shape = record {
  state = Fresh;
  point = 0;
  stop = 0;
  first_size = None;
  settled = false;
  marks = unmarked shape;
  active = unmarked shape;
  slot = record { is_full = false; point = 0; marks = unmarked shape };
  exchanges = 0;
  restores = 0;
}

-- the phase has a mark for each variable, whether each is an active Clock, and room to save the marks
pub record HasMarks (shape : Shape) (phase : Phase) : Type 0 where
  pub marks : length phase.marks ≡ length shape.variables
  pub active : length phase.active ≡ length shape.variables
  pub saved : length phase.slot.marks ≡ length shape.variables

-- the marks once a variable is marked
abbrev pub marked : Shape → List Bool → ℕ → List Bool
marked shape marks reference =
    option_map_or (λ place. set marks place true) (place_of shape.variables reference) marks

-- the marks once a variable is set: only in Event Mode and in Step Mode is that kept in mind
abbrev pub marks_after_set : InstanceState → Shape → List Bool → ℕ → List Bool
marks_after_set Event shape marks reference = marked shape marks reference
marks_after_set Step shape marks reference = marked shape marks reference
marks_after_set _ shape marks reference = marks

-- the answer to GetClock is that the Clock is active
abbrev pub is_tick : Reply → Bool
is_tick (R.Done is_warning (A.GetClock word)) = word == 1
is_tick _ = false

-- where a step ended
abbrev pub end_of : Reply → ℕ → ℕ
end_of (R.Done is_warning (A.DoStep event_needed terminate early end)) point = end
end_of _ point = point

-- the reply to an Update asks for no other
abbrev pub settles : Reply → Bool
settles (R.Done is_warning (A.Update again terminate event_time)) = not again
settles _ = false

-- where Initialization Mode leads
abbrev pub running_state : Shape → InstanceState
running_state shape = if shape.has_event_mode then Event else Step

-- a Restore leads to Step Mode, also where a run is resumed
abbrev pub restored_state : InstanceState → InstanceState
restored_state Instantiated = Step
restored_state state = state

-- where a good reply leads: a Clock that is set or asked is marked, and active where it was set or answers so; an Update ends its instant and leaves no Clock active; it takes the marks away, as a step does and the way into Event Mode, so that an instant begins with none; Save fills the slot with the point and the marks, Deserialize with a point and no mark, Restore brings them back and keeps the slot, Free empties it; what only reads leaves it
abbrev pub entered : Shape → Phase → Call → Reply → Phase
entered shape phase (C.Instantiate event_mode early_return batches) reply =
    record phase { state = Instantiated }
entered shape phase (C.EnterInitialization start stop) reply =
    record phase { state = Initialization; point = start; stop = stop }
entered shape phase C.ExitInitialization reply =
    record phase { state = running_state shape; settled = false }
entered shape phase C.EnterEvent reply =
    record phase { state = Event; settled = false; marks = unmarked shape }
entered shape phase C.EnterStep reply = record phase { state = Step }
entered shape phase C.Update reply =
    record phase { settled = settles reply; marks = unmarked shape; active = unmarked shape }
entered shape phase (C.DoStep at size) reply = record phase {
  point = end_of reply phase.point;
  first_size = Some (unwrap_or phase.first_size size);
  marks = unmarked shape;
}
entered shape phase (C.Set kind reference value) reply =
    record phase { marks = marks_after_set phase.state shape phase.marks reference }
entered shape phase (C.GetClock reference) reply = record phase {
  marks = marked shape phase.marks reference;
  active = if is_tick reply then marked shape phase.active reference else phase.active;
}
entered shape phase (C.SetClock reference) reply = record phase {
  marks = marked shape phase.marks reference;
  active = marked shape phase.active reference;
}
entered shape phase C.Save reply =
    record phase { slot = record { is_full = true; point = phase.point; marks = phase.marks } }
entered shape phase C.Restore reply = record phase {
  state = restored_state phase.state;
  point = phase.slot.point;
  marks = phase.slot.marks;
}
entered shape phase (C.Deserialize length point stop) reply = record phase {
  stop = stop;
  slot = record { is_full = true; point = point; marks = unmarked shape };
}
entered shape phase C.Free reply = record phase {
  slot = record {
    is_full = false;
    point = phase.slot.point;
    marks = phase.slot.marks;
  };
}
entered shape phase C.Terminate reply = record phase { state = Terminated }
entered shape phase C.FreeInstance reply = record phase { state = Gone }
entered shape phase _ reply = phase

-- after a bad status: Error leads to Dead and Fatal to Lost, and Discard leaves the state
abbrev after_bad : InstanceState → BadStatus → InstanceState
after_bad state Discard = state
after_bad state Error = Dead
after_bad state Fatal = Lost

-- the same for Instantiate, which made no instance then
abbrev after_bad_start : BadStatus → InstanceState
after_bad_start Discard = Gone
after_bad_start Error = Gone
after_bad_start Fatal = Lost

-- where a bad reply leads; an instance that is freed is gone whatever the reply
abbrev pub state_after_bad : InstanceState → Call → BadStatus → InstanceState
state_after_bad state C.FreeInstance status = Gone
state_after_bad state (C.Instantiate event_mode early_return batches) status = after_bad_start status
state_after_bad state _ status = after_bad state status

-- one more of a count that stays at its last value
abbrev pub one_more : ℕ → ℕ
one_more count = min (count + 1) (2 ^ 64 - 1)

-- the number of Restore calls, this one among them
abbrev pub restores_after : ℕ → Call → ℕ
restores_after restores C.Restore = one_more restores
restores_after restores _ = restores

-- the call is counted
abbrev pub counted : Phase → Call → Phase
counted phase call = record phase {
  exchanges = one_more phase.exchanges;
  restores = restores_after phase.restores call;
}

-- the phase after a reply of this worth: an invalid reply is handled as Error is
abbrev pub graded : Shape → Phase → Call → Reply → Grade → Phase
graded shape phase call reply Good = entered shape phase call reply
graded shape phase call reply Refused =
    record phase { state = state_after_bad phase.state call (bad_status_of reply) }
graded shape phase call reply Misreply =
    record phase { state = state_after_bad phase.state call Error }

-- the phase after a call; none stands for a fault in place of the reply
abbrev pub next_of : Shape → Phase → Call → Option Reply → Phase
next_of shape phase call None = record (counted phase call) { state = Lost }
next_of shape phase call (Some reply) =
    graded shape (counted phase call) call reply (grade_of shape call reply)
