-- An FMU as a function of its saved state and inputs (FMI 3.0, 2.2.6: FMU state; 2.4.9: dependencies of outputs; 4.2.1: the state machine of Co-Simulation).
use Rattle.std.specs.Prelude.{◌≡◌, ℕ, ℤ, Bool, true, false, ◌==◌, List, [], ◌∷◌, length, filter, map, Option, Some, None, IsSome, IsSomeAnd, pos, unwrap_or, if◌then◌else◌}
use Rattle.std.specs.List.{list_any, slice_get}
use Rattle.std.specs.Option.{option_and_then}
use Rattle.value_types.specs.Shape.{AgreeFor, place_of, variable_at}
use Rattle.value_types.specs.declared.shape.Causality.TheVariants.{Output}
use Rattle.value_types.specs.declared.shape.Variable.{Variable}
use Rattle.value_types.specs.declared.shape.Shape.{Shape}
use Rattle.fmi_calls.specs.declared.call.BadStatus.TheVariants.{Discard}
use Rattle.fmi_calls.specs.declared.call.Call.{Call}
use Rattle.fmi_calls.specs.declared.call.Call.TheVariants as C
use Rattle.fmi_calls.specs.declared.call.Reply.{Reply}
use Rattle.fmi_calls.specs.declared.call.Reply.TheVariants.{Done, Refused}
use Rattle.fmi_calls.specs.declared.call.Content.TheVariants.{Deserialize, Serialize}
use Rattle.fmi_calls.specs.declared.phase.InstanceState.{InstanceState}
use Rattle.fmi_calls.specs.declared.phase.InstanceState.TheVariants as P
use Rattle.fmi_calls.specs.declared.phase.Phase.{Phase}
use Rattle.fmi_calls.specs.KindFacts.{keeps_state}
use Rattle.fmi_calls.specs.Permission.{is_input_clock}

-- what Save keeps
pub record SavedMachine : Type 0 where
  pub numbers : List ℤ
  pub values : List ℤ

-- a state: numbers of the machine's own, a value for each variable of the shape in its order, and the slot of Save
pub record MachineState : Type 0 where
  pub numbers : List ℤ
  pub values : List ℤ
  pub slot : Option SavedMachine

-- the bytes of a saved state, and the saved state that bytes are read back as, if they are one
pub record Packing : Type 0 where
  pub pack : SavedMachine → List ℕ
  pub unpack : List ℕ → Option SavedMachine

-- the references of its values, and those of its input Clocks; the first state; whether a state is in Initialization Mode; the reply to a call; the numbers after a call that changes them; its states as bytes; the reply to a Deserialize of these bytes
pub record Machine : Type 0 where
  pub references : List ℕ
  pub clocks : List ℕ
  pub first : MachineState
  pub initializing : List ℤ → Bool
  pub look : MachineState → Call → Reply
  pub change : MachineState → Call → List ℤ
  pub packing : Packing
  pub look_at : MachineState → Call → List ℕ → Reply

-- ---- the state after a call

abbrev pub changed : Machine → MachineState → Call → MachineState
changed m s call = record s { numbers = m.change s call }

-- the values once the one under a reference is written
abbrev pub written : List ℕ → List ℤ → ℕ → ℤ → List ℤ
written (r ∷ rs) (x ∷ xs) reference value =
    (if r == reference then value else x) ∷ written rs xs reference value
written [] xs reference value = xs
written (r ∷ rs) [] reference value = []

-- the values once those under some references are written
abbrev pub all_written : List ℕ → (ℕ → Option ℤ) → List ℤ → List ℤ
all_written (r ∷ rs) new (x ∷ xs) = unwrap_or (new r) x ∷ all_written rs new xs
all_written [] new xs = xs
all_written (r ∷ rs) new [] = []

-- 0 under each of the references
abbrev pub zero_at : List ℕ → ℕ → Option ℤ
zero_at references r = if list_any (λ x. x == r) references then Some (pos 0) else None

-- the values once the input Clocks are inactive again
abbrev pub unticked : Machine → List ℤ → List ℤ
unticked m values = all_written m.references (zero_at m.clocks) values

-- what a state keeps
abbrev pub kept : MachineState → SavedMachine
kept s = record { numbers = s.numbers; values = s.values }

-- the state once what was saved is back; the slot keeps it
abbrev pub put_back : Option SavedMachine → MachineState → MachineState
put_back None s = s
put_back (Some saved) s = record s { numbers = saved.numbers; values = saved.values }

-- the state after a call: reading changes nothing, Set writes a value and SetClock 1, Update makes the input Clocks inactive, Save fills the slot, Restore puts it back, and Free empties it; a Serialize leaves it; every other call but Deserialize changes the numbers alone
abbrev pub after : Machine → MachineState → Call → MachineState
after m s (C.Get kind reference) = s
after m s (C.GetClock reference) = s
after m s (C.GetInterval reference) = s
after m s (C.GetShift reference) = s
after m s (C.Set kind reference value) =
    record s { values = written m.references s.values reference value }
after m s (C.SetClock reference) =
    record s { values = written m.references s.values reference (pos 1) }
after m s C.Update = record (changed m s C.Update) { values = unticked m s.values }
after m s C.Save = record s { slot = Some (kept s) }
after m s C.Restore = put_back s.slot s
after m s C.Free = record s { slot = None }
after m s C.Serialize = s
after m s (C.Deserialize length point stop) = s
after m s call = changed m s call

-- the state after a Deserialize of these bytes: what they are read back as is in the slot
abbrev pub taken_in : Machine → MachineState → List ℕ → MachineState
taken_in m s bytes = record s { slot = m.packing.unpack bytes }

-- a number of the machine's own that marks Initialization Mode: 1 from EnterInitialization to ExitInitialization
abbrev pub mark_after : ℤ → Call → ℤ
mark_after mark (C.EnterInitialization start stop) = pos 1
mark_after mark C.ExitInitialization = pos 0
mark_after mark _ = mark

-- the value under a reference
abbrev pub value_at : List Variable → List ℤ → ℕ → Option ℤ
value_at variables values reference =
    option_and_then (slice_get values) (place_of variables reference)

-- ---- a machine is one of its shape

-- the call changes whether the instance is in Initialization Mode
abbrev pub changes_mode : Call → Bool
changes_mode (C.EnterInitialization start stop) = true
changes_mode C.ExitInitialization = true
changes_mode _ = false

abbrev pub is_discard : Reply → Bool
is_discard (Refused kind Discard) = true
is_discard _ = false

-- the machine is that of an FMU of this shape: it has a value for each variable, and no saved state at first; it is in Initialization Mode from EnterInitialization to ExitInitialization, and answers neither by Discard, which FMI 3.0 doesn't have for a change of mode
pub record IsMachineOf (shape : Shape) (m : Machine) : Type 0 where
  pub references : m.references ≡ map (λ (v : Variable). v.reference) shape.variables
  pub clocks : m.clocks ≡ map (λ (v : Variable). v.reference)
      (filter is_input_clock shape.variables)
  pub values : length m.first.values ≡ length shape.variables
  pub empty : m.first.slot ≡ None
  pub before : m.initializing m.first.numbers ≡ false
  pub enters : (s : MachineState) (start stop : ℕ) →
      m.initializing (m.change s (C.EnterInitialization start stop)) ≡ true
  pub exits : (s : MachineState) → m.initializing (m.change s C.ExitInitialization) ≡ false
  pub keeps : (s : MachineState) (call : Call) → changes_mode call ≡ false →
      m.initializing (m.change s call) ≡ m.initializing s.numbers
  pub undiscarded : (s : MachineState) (call : Call) → changes_mode call ≡ true →
      is_discard (m.look s call) ≡ false

abbrev pub is_initialization : InstanceState → Bool
is_initialization P.Initialization = true
is_initialization _ = false

-- the instance isn't dead, lost or gone
abbrev pub is_alive : InstanceState → Bool
is_alive P.Dead = false
is_alive P.Lost = false
is_alive P.Gone = false
is_alive _ = true

-- the machine's state is one of an instance in this phase: it is in Initialization Mode exactly where the instance is, and what it keeps saved isn't
pub record IsInPhase (m : Machine) (phase : Phase) (s : MachineState) : Type 0 where
  pub mode : is_alive phase.state ≡ true → m.initializing s.numbers ≡ is_initialization phase.state
  pub saved : is_alive phase.state ≡ true → (kept : SavedMachine) → s.slot ≡ Some kept →
      m.initializing kept.numbers ≡ false

-- ---- states as bytes

-- how many bytes follow a reply to Serialize
abbrev pub bytes_after_reply : Reply → ℕ
bytes_after_reply (Done is_warning (Serialize length)) = length
bytes_after_reply _ = 0

-- bytes aren't read back as a state in Initialization Mode, and those of a Deserialize that is done are read back as one
pub record UnpacksWell (m : Machine) : Type 0 where
  pub outside : (bytes : List ℕ) (kept : SavedMachine) → m.packing.unpack bytes ≡ Some kept →
      m.initializing kept.numbers ≡ false
  pub fills : (s : MachineState) (call : Call) (bytes : List ℕ) (is_warning : Bool) →
      m.look_at s call bytes ≡ Done is_warning Deserialize → IsSome (m.packing.unpack bytes)

-- ---- what a machine's replies don't depend on

-- but for the calls on a saved state, neither a reply nor a change depends on the state that is saved
pub record IgnoresSlot (m : Machine) : Type 0 where
  pub looks : (call : Call) (s : MachineState) (slot : Option SavedMachine) →
      keeps_state call ≡ false → m.look (record s { slot = slot }) call ≡ m.look s call
  pub changes : (call : Call) (s : MachineState) (slot : Option SavedMachine) →
      keeps_state call ≡ false → m.change (record s { slot = slot }) call ≡ m.change s call

-- the output that a call looks at
abbrev pub output_of : Call → Option ℕ
output_of (C.Get kind reference) = Some reference
output_of (C.GetClock reference) = Some reference
output_of _ = None

-- what an output shows doesn't depend on an input that it doesn't declare; without event mode this is asked in Initialization Mode alone
abbrev pub IsLawful : Shape → Machine → Type 0
IsLawful shape m =
    (call : Call) (output : ℕ) (s : MachineState) (xs ys : List ℤ) → output_of call ≡ Some output →
    IsSomeAnd (variable_at shape.variables output) (λ (v : Variable). v.causality ≡ Output) →
    (shape.has_event_mode ≡ false → m.initializing s.numbers ≡ true) →
    AgreeFor shape (m.initializing s.numbers) output xs ys →
    m.look (record s { values = xs }) call ≡ m.look (record s { values = ys }) call
