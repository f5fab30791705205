-- What takes part in an instant, after it and in a step (FMI 3.0, 4.2.1: Event Mode, Step Mode; 2.2.8: clocked variables; SSP 1.0: connections). The turn of any other port sends nothing and leaves its value.
use Rattle.std.specs.Prelude.{◌≡◌, ◌⊎◌, ℕ, ℤ, ◌<◌, ◌≤◌, ◌==◌, ◌&&◌, ◌||◌, Bool, true, false, not, List, [], length, Option, Some, None, Contains, nat_lt, slice_index_or}
use Rattle.std.specs.List.{slice_get}
use Rattle.std.specs.Option.{option_map_or}
use Rattle.sim_base.specs.declared.numbers.PortId.{PortId}
use Rattle.system_model.specs.declared.system.Component.{Component}
use Rattle.system_model.specs.declared.system.Role.{Role}
use Rattle.system_model.specs.declared.system.Role.TheVariants.{Input, Output, ClockInput, ClockOutput, TimeClock}
use Rattle.system_model.specs.declared.system.Port.{Port}
use Rattle.system_model.specs.declared.system.System.{System}
use Rattle.system_model.specs.Ports.{is_clock_role, port_numbers}
use Rattle.system_model.specs.Values.{value}
use Rattle.event_iteration.specs.declared.participants.Participants.{Participants}
use Rattle.event_iteration.specs.Intervals.{is_time_clock}
use Rattle.event_iteration.specs.Settings.{port_order}

-- ---- which ports

-- an input that nothing feeds and that is no Clock
abbrev pub is_unfed : Role → Bool
is_unfed (Input None) = true
is_unfed (Input (Some feed)) = false
is_unfed Output = false
is_unfed (ClockInput feed) = false
is_unfed ClockOutput = false
is_unfed (TimeClock timing) = false

-- an input that is fed and no Clock
abbrev pub is_fed_input : Role → Bool
is_fed_input (Input None) = false
is_fed_input (Input (Some feed)) = true
is_fed_input Output = false
is_fed_input (ClockInput feed) = false
is_fed_input ClockOutput = false
is_fed_input (TimeClock timing) = false

-- an input, and no Clock, whose path from its source makes a change of values
abbrev pub is_changed_input : Role → Bool
is_changed_input (Input None) = false
is_changed_input (Input (Some feed)) = nat_lt 0 (length feed.changes)
is_changed_input Output = false
is_changed_input (ClockInput feed) = false
is_changed_input ClockOutput = false
is_changed_input (TimeClock timing) = false

-- it takes part in each instant: a Clock, and what has no Clocks but an input that nothing feeds
abbrev pub is_steady : Port → Bool
is_steady port = is_clock_role port.role || (length port.clocks == 0 && not (is_unfed port.role))

-- it takes part where a Clock of it ticks
abbrev pub waits_for_ticks : Port → Bool
waits_for_ticks port = not (is_clock_role port.role) && not (length port.clocks == 0) && not (is_unfed port.role)

-- it is set before a step: a connected input of an FMU without event mode
abbrev pub is_set_before_step : System → Port → Bool
is_set_before_step system port =
    is_fed_input port.role && option_map_or (λ (c : Component). not c.shape.has_event_mode)
    (slice_get system.components port.component.0) false

-- ---- places that are left out

-- the place of an order has a port for which that doesn't hold
abbrev pub LacksAt : System → List ℕ → (Port → Bool) → ℕ → Type 0
LacksAt system order keeps j =
    (p : ℕ) (port : Port) → slice_get order j ≡ Some p → slice_get system.ports p ≡ Some port →
    keeps port ≡ false

-- a mark for each place of an order: whether that holds of its port
abbrev pub AreMarks : System → List ℕ → (Port → Bool) → List Bool → Type 0
AreMarks system order keeps marks =
    (j p : ℕ) (port : Port) → slice_get order j ≡ Some p → slice_get system.ports p ≡ Some port →
    slice_index_or marks j false ≡ keeps port

-- for each of n places the first from it on that isn't left out
pub record AreSkips (n : ℕ) (out : ℕ → Type 0) (next : List ℕ) : Type 0 where
  pub after : (k : ℕ) → k ≤ slice_index_or next k k
  pub within : (k : ℕ) → k ≤ n → slice_index_or next k k ≤ n
  pub out_between : (k j : ℕ) → k ≤ j → j < slice_index_or next k k → out j

-- the place k came into the lists of these Clocks, and what stood in them stands there still
pub record Awaits (clocks : List PortId) (k : ℕ) (before after : List (List ℕ)) : Type 0 where
  pub size : length after ≡ length before
  pub there : (c : ℕ) → Contains (port_numbers clocks) c → Contains (slice_index_or after c []) k
  pub kept : (c j : ℕ) → Contains (slice_index_or before c []) j → Contains (slice_index_or after c []) j
  pub only : (c j : ℕ) → Contains (slice_index_or after c []) j →
      Contains (slice_index_or before c []) j ⊎ ((j ≡ k) × Contains (port_numbers clocks) c)

-- the port at a place of the instants' order has that Clock
pub record HasClockAt (system : System) (c j : ℕ) : Type 0 where
  pub p : ℕ
  pub port : Port
  pub at : slice_get (port_numbers system.instant_order) j ≡ Some p
  pub is : slice_get system.ports p ≡ Some port
  pub clock : Contains (port_numbers port.clocks) c

-- the list of each Clock has the places of the ports that take part where it ticks, all of which have it
pub record AreAtTicks (system : System) (lists : List (List ℕ)) : Type 0 where
  pub size : length lists ≡ length system.ports
  pub only : (c j : ℕ) → Contains (slice_index_or lists c []) j → HasClockAt system c j
  pub there : (c j p : ℕ) (port : Port) → slice_get (port_numbers system.instant_order) j ≡ Some p →
      slice_get system.ports p ≡ Some port → waits_for_ticks port ≡ true →
      Contains (port_numbers port.clocks) c → Contains (slice_index_or lists c []) j

pub record AreParticipants (system : System) (it : Participants) : Type 0 where
  pub steady : AreSkips (length system.instant_order)
      (LacksAt system (port_numbers system.instant_order) is_steady) it.steady.next.items
  pub at_ticks : AreAtTicks system it.at_ticks
  pub time_clocks : AreSkips (length system.ports)
      (LacksAt system (port_order system) (λ (port : Port). is_time_clock port.role))
      it.time_clocks.next.items
  pub set_before_steps : AreSkips (length system.ports)
      (LacksAt system (port_order system) (is_set_before_step system))
      it.set_before_steps.next.items
  pub changed_inputs : AreSkips (length system.ports)
      (LacksAt system (port_order system) (λ (port : Port). is_changed_input port.role))
      it.changed_inputs.next.items

-- ---- values, and places that are still to be taken

-- where an input that nothing feeds has a value (a run can be resumed with one), its place is still to be taken
abbrev pub AreUnfedAwaited : System → List (Option ℤ) → List Bool → Type 0
AreUnfedAwaited system values pending =
    (j p : ℕ) (port : Port) → slice_get (port_numbers system.instant_order) j ≡ Some p →
    slice_get system.ports p ≡ Some port → is_unfed port.role ≡ true →
    (value values p ≡ None) ⊎ (slice_index_or pending j false ≡ true)

-- the place k was taken, which is one of a port p: where that is an active Clock, the places that wait for it are still to be taken; all others are as they were
pub record Passes (lists : List (List ℕ)) (k p : ℕ) (is_active : Bool) (before after : List Bool) : Type 0 where
  pub size : length after ≡ length before
  pub kept : (j : ℕ) → (j ≡ k → ⊥) → slice_index_or before j false ≡ true → slice_index_or after j false ≡ true
  pub there : is_active ≡ true → (j : ℕ) → Contains (slice_index_or lists p []) j →
      slice_index_or after j false ≡ true
  pub only : (j : ℕ) → slice_index_or after j false ≡ true →
      ((j ≡ k → ⊥) × (slice_index_or before j false ≡ true)) ⊎ Contains (slice_index_or lists p []) j

-- no place is still to be taken
abbrev pub IsIdleQueue : List Bool → Type 0
IsIdleQueue pending = (k : ℕ) → slice_index_or pending k false ≡ false
