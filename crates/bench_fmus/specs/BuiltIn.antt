-- What the built-in machines have in common: the machine that a behaviour makes.
use Rattle.std.specs.Prelude.{ℕ, ◌+◌, ◌==◌, ◌^◌, ◌&&◌, ℤ, pos, nat_le, not, Bool, true, false, List, filter, map, Option, Some, None, is_some, unwrap_or, if◌then◌else◌}
use Rattle.clock_fraction.specs.declared.fraction.Fraction.{Fraction}
use Rattle.value_types.specs.Shape.{is_at, is_declared}
use Rattle.value_types.specs.Values.{word_of}
use Rattle.value_types.specs.declared.values.PortType.TheVariants.{Clock}
use Rattle.value_types.specs.declared.shape.Variable.{Variable}
use Rattle.value_types.specs.declared.shape.Shape.{Shape}
use Rattle.fmi_calls.specs.declared.call.BadStatus.TheVariants.{Error}
use Rattle.fmi_calls.specs.declared.call.Call.{Call}
use Rattle.fmi_calls.specs.declared.call.Call.TheVariants as C
use Rattle.fmi_calls.specs.declared.call.Content.{Content}
use Rattle.fmi_calls.specs.declared.call.Content.TheVariants as A
use Rattle.fmi_calls.specs.declared.call.Interval.{Interval}
use Rattle.fmi_calls.specs.declared.call.Kind.TheVariants as K
use Rattle.fmi_calls.specs.declared.call.Reply.{Reply}
use Rattle.fmi_calls.specs.declared.call.Reply.TheVariants.{Done, Refused}
use Rattle.fmu_peer.specs.Machine.{Machine, MachineState, SavedMachine, mark_after}
use Rattle.fmi_calls.specs.Permission.{is_input_clock}
use Rattle.bench_fmus.specs.Wrapping.{wrapped}
use Rattle.bench_fmus.specs.Packed.{packed, packed_size, unpacked}
pub use Rattle.bench_fmus.specs.State.{Numbers, at_first, first_state, fraction_at, has_fired, is_in_initialization, is_ticking, listed, no_fraction, numbers_in, one_more, spread, start_of, value_of}

-- how a machine behaves: what a reference shows, where a step from a point of a size ends early, whether a step of a size asks to end the simulation, whether an Update asks for another, the event time that it asks for, the interval and the shift of the Clock under a reference, and the numbers after a call, mark and point aside; each by the numbers and the values
pub record Behaviour : Type 0 where
  pub shown : Shape → Numbers → List ℤ → ℕ → ℤ
  pub early_end : Shape → List ℤ → ℕ → ℕ → Option ℕ
  pub asks_to_end : List Variable → List ℤ → ℕ → Bool
  pub asks_again : List Variable → Numbers → List ℤ → Bool
  pub event_time : List Variable → Numbers → List ℤ → Option ℕ
  pub interval : Shape → Numbers → List ℤ → ℕ → Interval
  pub shift : Shape → List ℤ → ℕ → Fraction
  pub changed : Shape → Numbers → List ℤ → Call → Numbers

-- the count under a reference of its own, and the value under any other
abbrev pub count_at : ℕ → Shape → Numbers → List ℤ → ℕ → ℤ
count_at own shape n values reference =
    if reference == own then n.count else value_of shape.variables values reference

-- the output declares to depend on the variable under a reference, by the list of the mode
abbrev pub is_declared_at : Shape → Numbers → ℕ → ℕ → Bool
is_declared_at shape n output reference =
    is_at (is_declared shape (is_in_initialization n) output) shape.variables reference

-- what an output sees of the variable under a reference: its value where the output declares to depend on it, else the value that is held
abbrev pub seen_by : Shape → Numbers → List ℤ → ℕ → ℕ → ℤ
seen_by shape n values output reference =
    if is_declared_at shape n output reference
    then value_of shape.variables values reference else n.held

-- a step ends at its bound, or early, and then needs an event where the FMU has event mode
abbrev pub step_content : Bool → Bool → ℕ → Option ℕ → Content
step_content has_event_mode terminate bound None = A.DoStep false terminate false bound
step_content has_event_mode terminate bound (Some end) = A.DoStep has_event_mode terminate true end

-- what a good reply carries
abbrev pub content_of : Behaviour → Shape → Numbers → List ℤ → Call → Content
content_of b shape n values (C.DoStep at size) =
    step_content shape.has_event_mode (b.asks_to_end shape.variables values size) (at + size)
    (b.early_end shape values at size)
content_of b shape n values (C.Get kind reference) =
    A.Get (word_of (wrapped kind (b.shown shape n values reference)))
content_of b shape n values (C.GetClock reference) =
    A.GetClock (word_of (wrapped Clock (b.shown shape n values reference)))
content_of b shape n values (C.GetInterval reference) =
    A.GetInterval (b.interval shape n values reference)
content_of b shape n values (C.GetShift reference) =
    A.GetShift (b.shift shape values reference)
content_of b shape n values C.Update =
    A.Update (b.asks_again shape.variables n values) false
    (b.event_time shape.variables n values)
content_of b shape n values (C.Instantiate event_mode early_return batches) = A.Instantiate false
content_of b shape n values (C.EnterInitialization start stop) = A.EnterInitialization
content_of b shape n values C.ExitInitialization = A.ExitInitialization
content_of b shape n values C.EnterEvent = A.EnterEvent
content_of b shape n values C.EnterStep = A.EnterStep
content_of b shape n values (C.Set kind reference value) = A.Set
content_of b shape n values (C.SetClock reference) = A.SetClock
content_of b shape n values C.Save = A.Save
content_of b shape n values C.Restore = A.Restore
content_of b shape n values C.Free = A.Free
content_of b shape n values C.Terminate = A.Terminate
content_of b shape n values C.FreeInstance = A.FreeInstance
content_of b shape n values C.Serialize = A.Serialize (packed_size shape.variables)
content_of b shape n values (C.Deserialize length point stop) = A.Deserialize

-- time begins with EnterInitialization, and goes on to the end of each step
abbrev pub point_after : Behaviour → Shape → ℤ → List ℤ → Call → ℤ
point_after b shape point values (C.EnterInitialization start stop) = pos start
point_after b shape point values (C.DoStep at size) =
    pos (unwrap_or (b.early_end shape values at size) (at + size))
point_after b shape point values _ = point

-- the numbers after a call; what Set, Save, Restore and Free do is the same for every machine
abbrev pub numbers_after : Behaviour → Shape → Numbers → List ℤ → Call → Numbers
numbers_after b shape n values call = record (b.changed shape n values call) {
  mark = mark_after n.mark call;
  point = point_after b shape n.point values call;
}

-- a state that is serialized has to be saved, and its bytes may not pass 2^20
abbrev pub is_packable : Shape → Option SavedMachine → Bool
is_packable shape slot = is_some slot && nat_le (packed_size shape.variables) (2 ^ 20)

-- the call is answered by Error
abbrev pub is_refused : Shape → Option SavedMachine → Call → Bool
is_refused shape slot C.Serialize = not (is_packable shape slot)
is_refused shape slot _ = false

abbrev pub reply_of : Behaviour → Shape → MachineState → Call → Reply
reply_of b shape s call =
    if is_refused shape s.slot call then Refused K.Serialize Error
    else Done false (content_of b shape (numbers_in s.numbers) s.values call)

-- the reply to a Deserialize: bytes that aren't those of a state are answered by Error
abbrev pub reply_to_bytes : Option SavedMachine → Reply
reply_to_bytes (Some kept) = Done false A.Deserialize
reply_to_bytes None = Refused K.Deserialize Error

abbrev pub machine_of : Behaviour → Shape → Machine
machine_of b shape = record {
  references = map (λ (v : Variable). v.reference) shape.variables;
  clocks = map (λ (v : Variable). v.reference) (filter is_input_clock shape.variables);
  first = first_state shape.variables;
  initializing = λ numbers. is_in_initialization (numbers_in numbers);
  look = reply_of b shape;
  change = λ s call. listed (numbers_after b shape (numbers_in s.numbers) s.values call);
  packing = record { pack = packed shape.variables; unpack = unpacked shape.variables };
  look_at = λ s call bytes. reply_to_bytes (unpacked shape.variables bytes);
}
