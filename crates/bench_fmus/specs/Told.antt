-- What the peers of this crate tell: a talk where it is kept, what a peer was started with, and the state of a built-in machine.
use Rattle.std.specs.Prelude.{◌≡◌, ℤ, pos, Bool, true, false, List, filter, length, map, Option, Some, None, option_map, if◌then◌else◌}
use Rattle.value_types.specs.declared.shape.Variable.{Variable}
use Rattle.value_types.specs.declared.shape.Shape.{Shape}
use Rattle.fmi_calls.specs.Permission.{is_input_clock}
use Rattle.fmu_peer.specs.declared.talk_room.TalkRoom.{TalkRoom}
use Rattle.fmu_peer.specs.declared.peer.Exchange.{Exchange}
use Rattle.fmu_peer.specs.Machine.{MachineState, SavedMachine}
use Rattle.fmu_peer.specs.View.{Origin}
use Rattle.bench_fmus.specs.declared.origin.Origin as code
use Rattle.bench_fmus.specs.declared.built_in_state.Numbers as numbers
use Rattle.bench_fmus.specs.declared.built_in_state.BuiltInState.{BuiltInState}
use Rattle.bench_fmus.specs.declared.saved_state.SavedState.{SavedState}
use Rattle.bench_fmus.specs.Packed.{ordered}
use Rattle.bench_fmus.specs.State.{Numbers, listed, spread}

-- the exchanges in a talk's room
abbrev pub talk_in : Option TalkRoom → Option (List Exchange)
talk_in o = option_map (λ (t : TalkRoom). t.exchanges.items) o

abbrev pub origin_in : code.Origin → Origin
origin_in o = record { host = o.host; name = o.name; directory = o.directory }

-- ---- a built-in machine

-- a flag as a number
abbrev pub number_of_flag : Bool → ℤ
number_of_flag false = pos 0
number_of_flag true = pos 1

abbrev pub told : numbers.Numbers → Numbers
told n = record {
  mark = number_of_flag n.is_initializing;
  held = n.held;
  count = n.count;
  point = pos n.point;
  fired = number_of_flag n.has_fired;
}

-- what Save kept, or bytes were read back as
abbrev pub saved_in : List Variable → SavedState → SavedMachine
saved_in variables s =
    record { numbers = listed (told s.numbers); values = spread variables s.values.items }

-- the same, where a state is saved
abbrev pub slot_in : List Variable → SavedState → Option SavedMachine
slot_in variables s = if s.is_full then Some (saved_in variables s) else None

abbrev pub values_in : List Variable → BuiltInState → List ℤ
values_in variables s = spread variables s.values.items

abbrev pub state_in : List Variable → BuiltInState → MachineState
state_in variables s = record {
  numbers = listed (told s.numbers);
  values = values_in variables s;
  slot = slot_in variables s.saved;
}

-- there is a value for each variable, and room to save the values, and the order of references is that of the shape, and the input Clocks are those of the shape
pub record HasRoom (shape : Shape) (s : BuiltInState) : Type 0 where
  pub values : length s.values.items ≡ length shape.variables
  pub saved : length s.saved.values.items ≡ length shape.variables
  pub order : s.order.items ≡ ordered shape.variables
  pub clocks : s.clocks.items ≡ map (λ (v : Variable). v.reference)
      (filter is_input_clock shape.variables)
