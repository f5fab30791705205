-- Which call FMI 3.0 permits an FMU in its phase (4.2.1: the state machine of Co-Simulation and its table of functions; 2.2.6: FMU state; 2.2.8 and 2.2.9: clocked variables, Clocks).
use Rattle.std.specs.Prelude.{◌≡◌, ℕ, ◌+◌, ◌<◌, ◌≤◌, Bool, true, false, not, ◌||◌, ◌&&◌, ◌==◌, IsTrue, List, unwrap_or, slice_index_or, IsSomeAnd, Some}
use Rattle.std.specs.Option.{option_map_or}
use Rattle.std.specs.List.{list_any}
use Rattle.value_types.specs.Shape.{IsOutput, is_at, is_clock, is_input, is_input_port, is_output_port, is_parameter, is_unclocked, place_of, timing_at, variable_at}
use Rattle.value_types.specs.Values.{Fits}
use Rattle.value_types.specs.declared.values.PortType.{PortType}
use Rattle.value_types.specs.declared.values.PortType.TheVariants.{Clock}
use Rattle.value_types.specs.declared.shape.Causality.{Causality}
use Rattle.value_types.specs.declared.shape.ClockTiming.{ClockTiming}
use Rattle.value_types.specs.declared.shape.IntervalVariability.{IntervalVariability}
use Rattle.value_types.specs.declared.shape.IntervalVariability.TheVariants.{Fixed, Countdown, Changing}
use Rattle.value_types.specs.declared.shape.Shape.{Shape}
use Rattle.value_types.specs.declared.shape.Variable.{Variable}
use Rattle.fmi_calls.specs.declared.call.Call.{Call}
use Rattle.fmi_calls.specs.declared.call.Call.TheVariants as C
use Rattle.fmi_calls.specs.declared.phase.Phase.{Phase}
use Rattle.fmi_calls.specs.declared.phase.SavedPhase.{SavedPhase}
use Rattle.fmi_calls.specs.declared.phase.InstanceState.{InstanceState}
use Rattle.fmi_calls.specs.declared.phase.InstanceState.TheVariants.{Fresh, Instantiated, Initialization, Event, Step, Terminated, Dead, Lost, Gone}

-- ---- variables

-- Get and Set are of every type but Clock
abbrev pub is_value_type : PortType → Bool
is_value_type Clock = false
is_value_type _ = true

-- the reference is that of an output of this type, which Get reads
abbrev pub IsReadable : Shape → PortType → ℕ → Type 0
IsReadable shape kind reference = IsTrue (is_value_type kind) × IsOutput shape kind reference

-- the reference is that of a variable of this type, which Set writes
abbrev pub IsWritable : Shape → PortType → ℕ → Type 0
IsWritable shape kind reference =
    IsTrue (is_value_type kind) ×
    IsSomeAnd (variable_at shape.variables reference) (λ (v : Variable). v.kind ≡ Some kind)

-- ---- marks: which inputs and input Clocks were set and which output Clocks were asked, in this instant or since the last step

-- the variable is marked
abbrev pub is_marked : Shape → List Bool → ℕ → Bool
is_marked shape marks reference =
    option_map_or (λ place. slice_index_or marks place false)
    (place_of shape.variables reference) false

-- no variable is marked
abbrev pub none_marked : List Bool → Bool
none_marked marks = not (list_any (λ flag. flag) marks)

-- ---- Clocks

-- an input Clock, and an output Clock, that isn't ignored
abbrev pub is_input_clock : Variable → Bool
is_input_clock v = is_input_port v && is_clock v

abbrev pub is_output_clock : Variable → Bool
is_output_clock v = is_output_port v && is_clock v

-- a variable is accessible in an instant where it has no Clocks or one of them is active
abbrev pub is_accessible : Shape → List Bool → Variable → Bool
is_accessible shape active v = is_unclocked v || list_any (is_marked shape active) v.clocks

-- the Clock may be set, or asked whether it is active: once in an instant
abbrev pub can_be_ticked : (Variable → Bool) → InstanceState → Shape → List Bool → ℕ → Bool
can_be_ticked sort Event shape marks reference =
    is_at sort shape.variables reference && not (is_marked shape marks reference)
can_be_ticked sort _ shape marks reference = false

abbrev is_fixed : IntervalVariability → Bool
is_fixed Fixed = true
is_fixed _ = false

abbrev is_countdown : IntervalVariability → Bool
is_countdown Countdown = true
is_countdown _ = false

abbrev is_changing : IntervalVariability → Bool
is_changing Changing = true
is_changing _ = false

-- an input Clock whose timing passes the test
abbrev pub is_timed : (ClockTiming → Bool) → Shape → ℕ → Bool
is_timed test shape reference =
    is_at is_input_clock shape.variables reference &&
    option_map_or test (timing_at shape.clocks reference) false

-- a fixed Clock whose interval and shift are answered
abbrev pub is_answered : ClockTiming → Bool
is_answered c = is_fixed c.variability && c.supports_fraction

abbrev pub counts_down : ClockTiming → Bool
counts_down c = is_countdown c.variability

abbrev pub is_changed : ClockTiming → Bool
is_changed c = is_changing c.variability

-- the interval of a fixed Clock may be asked for in Initialization Mode, that of a countdown Clock in Event Mode, and that of a changing Clock in the instants in which it is active
abbrev pub has_interval : InstanceState → Shape → (active : List Bool) → ℕ → Bool
has_interval Initialization shape active reference = is_timed is_answered shape reference
has_interval Event shape active reference =
    is_timed counts_down shape reference ||
    (is_timed is_changed shape reference && is_marked shape active reference)
has_interval _ shape active reference = false

-- the shift of a fixed Clock or of a changing one may be asked for in Initialization Mode
abbrev pub has_shift : InstanceState → Shape → ℕ → Bool
has_shift Initialization shape reference =
    is_timed is_answered shape reference || is_timed is_changed shape reference
has_shift _ shape reference = false

-- ---- the table

-- whether a variable's causality is of this sort
abbrev pub has_causality : (Causality → Bool) → Shape → ℕ → Bool
has_causality sort shape reference =
    is_at (λ (v : Variable). sort v.causality) shape.variables reference

-- in Initialization Mode outputs without Clocks may be read, in Event Mode those that are accessible; in Step Mode, where there is no event mode, every output until an input is set
abbrev pub can_be_read : InstanceState → Shape → (marks active : List Bool) → ℕ → Bool
can_be_read Initialization shape marks active reference =
    is_at is_unclocked shape.variables reference
can_be_read Event shape marks active reference =
    is_at (is_accessible shape active) shape.variables reference
can_be_read Step shape marks active reference = not shape.has_event_mode && none_marked marks
can_be_read _ shape marks active reference = false

-- parameters may be set before Initialization Mode, inputs without Clocks in it; in Event Mode each input that is accessible once in an instant; in Step Mode, where there is no event mode, each input once before the next step
abbrev pub can_be_set : InstanceState → Shape → (marks active : List Bool) → ℕ → Bool
can_be_set Instantiated shape marks active reference = has_causality is_parameter shape reference
can_be_set Initialization shape marks active reference =
    has_causality is_input shape reference && is_at is_unclocked shape.variables reference
can_be_set Event shape marks active reference =
    has_causality is_input shape reference &&
    is_at (is_accessible shape active) shape.variables reference &&
    not (is_marked shape marks reference)
can_be_set Step shape marks active reference =
    has_causality is_input shape reference && not shape.has_event_mode &&
    not (is_marked shape marks reference)
can_be_set _ shape marks active reference = false

-- the instance may be freed: with a saved state only where it is dead
abbrev pub can_be_freed : InstanceState → Bool → Bool
can_be_freed Instantiated has_saved = not has_saved
can_be_freed Initialization has_saved = not has_saved
can_be_freed Event has_saved = not has_saved
can_be_freed Step has_saved = not has_saved
can_be_freed Terminated has_saved = not has_saved
can_be_freed Dead has_saved = true
can_be_freed Fresh has_saved = false
can_be_freed Lost has_saved = false
can_be_freed Gone has_saved = false

-- after Initialization Mode, until it is terminated
abbrev pub is_running : InstanceState → Bool
is_running Event = true
is_running Step = true
is_running _ = false

-- without variable steps each step has the size of the first
abbrev pub IsSizeFor : Shape → Phase → ℕ → Type 0
IsSizeFor shape phase size =
    IsTrue (shape.has_variable_steps || unwrap_or phase.first_size size == size)

-- a state that is saved is that of the point
abbrev pub is_of_point : SavedPhase → ℕ → Bool
is_of_point slot point = not slot.is_full || slot.point == point

-- states may be saved, and the slot is full or empty as this says
abbrev pub KeepsState : Shape → Phase → Bool → Type 0
KeepsState shape phase is_full =
    (phase.state ≡ Step) × (shape.can_save_state ≡ true) × (phase.slot.is_full ≡ is_full)

-- in Step Mode, and before Initialization Mode where a run is resumed, a state that is saved may be gone back to or freed
abbrev pub can_go_back : InstanceState → Bool
can_go_back Instantiated = true
can_go_back Step = true
can_go_back _ = false

abbrev pub GoesBack : Shape → Phase → Type 0
GoesBack shape phase =
    (can_go_back phase.state ≡ true) × (shape.can_save_state ≡ true) ×
    (phase.slot.is_full ≡ true)

-- the call is permitted. Event Mode is left once an Update in it has asked for no other
abbrev pub Permitted : Shape → Phase → Call → Type 0
Permitted shape phase (C.Instantiate event_mode early_return batches) =
    (phase.state ≡ Fresh) × (event_mode ≡ shape.has_event_mode) ×
    (early_return ≡ shape.might_return_early)
Permitted shape phase (C.EnterInitialization start stop) =
    (phase.state ≡ Instantiated) × (start ≤ stop)
Permitted shape phase C.ExitInitialization = phase.state ≡ Initialization
Permitted shape phase C.EnterEvent =
    (phase.state ≡ Step) × (shape.has_event_mode ≡ true) × (phase.slot.is_full ≡ false)
Permitted shape phase C.EnterStep = (phase.state ≡ Event) × (phase.settled ≡ true)
Permitted shape phase (C.DoStep at size) =
    (phase.state ≡ Step) × (at ≡ phase.point) × (0 < size) × (at + size ≤ phase.stop) ×
    IsSizeFor shape phase size × IsTrue (is_of_point phase.slot phase.point)
Permitted shape phase C.Update = phase.state ≡ Event
Permitted shape phase (C.Get kind reference) =
    IsTrue (can_be_read phase.state shape phase.marks phase.active reference) ×
    IsReadable shape kind reference
Permitted shape phase (C.Set kind reference value) =
    IsTrue (can_be_set phase.state shape phase.marks phase.active reference) ×
    IsWritable shape kind reference × Fits kind value
Permitted shape phase C.Save = KeepsState shape phase false
Permitted shape phase C.Restore = GoesBack shape phase
Permitted shape phase C.Free = GoesBack shape phase
Permitted shape phase C.Serialize =
    (phase.state ≡ Step) × (shape.can_serialize_state ≡ true) × (phase.slot.is_full ≡ true)
Permitted shape phase (C.Deserialize length point stop) =
    (phase.state ≡ Instantiated) × (shape.can_serialize_state ≡ true) ×
    (phase.slot.is_full ≡ false) × (point ≤ stop)
Permitted shape phase C.Terminate = (is_running phase.state ≡ true) × (phase.slot.is_full ≡ false)
Permitted shape phase C.FreeInstance = IsTrue (can_be_freed phase.state phase.slot.is_full)
Permitted shape phase (C.GetClock reference) =
    IsTrue (can_be_ticked is_output_clock phase.state shape phase.marks reference)
Permitted shape phase (C.SetClock reference) =
    IsTrue (can_be_ticked is_input_clock phase.state shape phase.marks reference)
Permitted shape phase (C.GetInterval reference) =
    IsTrue (has_interval phase.state shape phase.active reference)
Permitted shape phase (C.GetShift reference) = IsTrue (has_shift phase.state shape reference)
