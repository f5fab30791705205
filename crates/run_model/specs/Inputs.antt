-- Which ports are present, and what the values of an instant write into an FMU (FMI 3.0, 2.2.8: clocks; clocked variables are set and read at the ticks of their Clocks alone).
use Rattle.std.specs.Prelude.{ℕ, ℤ, pos, Bool, ◌&&◌, ◌==◌, if◌then◌else◌, List, Option, Some, None, option_and_then, position}
use Rattle.std.specs.List.{slice_get}
use Rattle.fmu_peer.specs.Machine.{MachineState, Machine, all_written}
use Rattle.system_model.specs.declared.system.Role.{Role}
use Rattle.system_model.specs.declared.system.Role.TheVariants.{Input, Output, ClockInput, ClockOutput, TimeClock}
use Rattle.system_model.specs.declared.system.Port.{Port}
use Rattle.system_model.specs.Values.{is_active, is_present, value}

-- what is written at a port of the value v: the value of a connected input that is present, and 1 at an input Clock that is active
abbrev pub written_by : Role → Port → List (Option ℤ) → Option ℤ → Option ℤ
written_by (Input None) port values v = None
written_by (Input (Some feed)) port values v = if is_present port values then v else None
written_by Output port values v = None
written_by (ClockInput feed) port values v = if is_active v then Some (pos 1) else None
written_by ClockOutput port values v = None
written_by (TimeClock timing) port values v = if is_active v then Some (pos 1) else None

abbrev pub written_at_port : List Port → List (Option ℤ) → ℕ → Option ℤ
written_at_port ports values p =
    option_and_then (λ (port : Port). written_by port.role port values (value values p))
    (slice_get ports p)

-- ---- the states of FMUs

-- the port is that of the i-th component under a reference
abbrev pub is_under : ℕ → ℕ → Port → Bool
is_under i reference port = (port.component.0 == i) && (port.reference == reference)

-- what is written under a reference of the i-th component, where this is written at each port
abbrev pub under : List Port → (ℕ → Option ℤ) → ℕ → ℕ → Option ℤ
under ports at_port i reference = option_and_then at_port (position (is_under i reference) ports)

-- the state of the i-th component once this is written at its ports
abbrev pub state_written : List Port → (ℕ → Option ℤ) → ℕ → Machine → MachineState → MachineState
state_written ports at_port i m s =
    record s { values = all_written m.references (under ports at_port i) s.values }

-- the state of the i-th component once the values are written
abbrev pub state_with : List Port → List (Option ℤ) → ℕ → Machine → MachineState → MachineState
state_with ports values i m s = state_written ports (written_at_port ports values) i m s
