-- In the midst of an instant: the states of FMUs once some ports were taken, one after the other, and set or read (FMI 3.0, 4.2.1: Event Mode, Initialization Mode).
use Rattle.std.specs.Prelude.{◌≡◌, ℕ, ◌==◌, ℤ, Bool, true, false, if◌then◌else◌, List, [], ◌∷◌, ◌++◌, Option, Some, None, Contains}
use Rattle.std.specs.List.{list_any, slice_get}
use Rattle.fmi_calls.specs.declared.call.Call.{Call}
use Rattle.fmu_peer.specs.Machine.{MachineState, Machine, output_of, written}
use Rattle.system_model.specs.declared.system.Component.{Component}
use Rattle.system_model.specs.declared.system.Port.{Port}
use Rattle.system_model.specs.declared.system.System.{System}
use Rattle.system_model.specs.Ports.{port_numbers, is_output_role}
use Rattle.system_model.specs.Needs.{Needs, NeedsInitially}
use Rattle.system_model.specs.Sound.{IsSound}
use Rattle.run_model.specs.Run.{Run, Situation, IsFmu}
use Rattle.system_model.specs.Values.{value, is_present}
use Rattle.run_model.specs.Inputs.{written_at_port, state_written, state_with}
use Rattle.run_model.specs.Equations.{SolvesAt}
use Rattle.run_model.specs.Initial.{SolvesInitially, initializing, is_read}
use Rattle.run_model.specs.Machines.{AreMachines, AreStates}

-- the port was taken
abbrev pub is_taken : List ℕ → ℕ → Bool
is_taken taken p = list_any (λ q. q == p) taken

-- what is written at the ports that were taken
abbrev pub only_at : List ℕ → (ℕ → Option ℤ) → ℕ → Option ℤ
only_at taken at_port p = if is_taken taken p then at_port p else None

-- the state once the value is written under the reference, where there is one
abbrev pub write_if : Machine → ℕ → MachineState → Option ℤ → MachineState
write_if m reference s None = s
write_if m reference s (Some x) = record s { values = written m.references s.values reference x }

-- V and W agree at all that p needs, and at what that needs
pub record AgreeAround (system : System) (p : ℕ) (V W : List (Option ℤ)) : Type 0 where
  pub needed : (q : ℕ) → Needs system p q → value V q ≡ value W q
  pub further : (q d : ℕ) → Needs system p q → Needs system q d → value V d ≡ value W d

-- ---- laws

-- at first nothing is written
abbrev pub NothingAtFirst : Type 0
NothingAtFirst =
    (system : System) (at_port : ℕ → Option ℤ) (i : ℕ) (m : Machine) (s : MachineState) →
    state_written system.ports (only_at [] at_port) i m s ≡ s

-- where a port is taken, what is written at it goes into its FMU
abbrev pub WritesAtPort : Type 0
WritesAtPort =
    (system : System) → IsSound system → (p : ℕ) (port : Port) →
    slice_get system.ports p ≡ Some port → (taken : List ℕ) → (Contains taken p → ⊥) →
    (at_port : ℕ → Option ℤ) (m : Machine) (s : MachineState) →
    write_if m port.reference (state_written system.ports (only_at taken at_port)
    port.component.0 m s) (at_port p)
    ≡ state_written system.ports (only_at (taken ++ p ∷ []) at_port) port.component.0 m s

-- and no other changes
abbrev pub KeepsBeside : Type 0
KeepsBeside =
    (system : System) (p : ℕ) (port : Port) → slice_get system.ports p ≡ Some port →
    (taken : List ℕ) (at_port : ℕ → Option ℤ) (i : ℕ) → (i ≡ port.component.0 → ⊥) →
    (m : Machine) (s : MachineState) →
    state_written system.ports (only_at taken at_port) i m s ≡
    state_written system.ports (only_at (taken ++ p ∷ []) at_port) i m s

-- once all ports were taken, all is written
abbrev pub AllAtLast : Type 0
AllAtLast =
    (system : System) → IsSound system →
    (V : List (Option ℤ)) (i : ℕ) (m : Machine) (s : MachineState) →
    state_written system.ports (only_at (port_numbers system.instant_order)
    (written_at_port system.ports V)) i m s ≡ state_with system.ports V i m s

-- so it is in Initialization Mode once all ports without Clocks were
abbrev pub AllAtLastInitially : Type 0
AllAtLastInitially =
    (r : Run) → IsSound r.system → (W : List (Option ℤ)) → SolvesInitially r W →
    (i : ℕ) (m : Machine) (s : MachineState) →
    state_written r.system.ports (only_at (port_numbers r.system.initial_order)
    (written_at_port r.system.ports W)) i m s ≡ state_with r.system.ports W i m s

-- once what it needs was taken, an output shows what it shows with all values written
abbrev pub LooksInMidst : Type 0
LooksInMidst =
    (r : Run) → IsSound r.system → AreMachines r → (states : List MachineState) →
    AreStates r false states → (p : ℕ) (port : Port) → slice_get r.system.ports p ≡ Some port →
    is_output_role port.role ≡ true →
    (V : List (Option ℤ)) (taken : List ℕ) → ((q : ℕ) → Needs r.system p q → Contains taken q) →
    (c : Component) (m : Machine) (s : MachineState) → IsFmu r states port.component.0 c m s →
    c.shape.has_event_mode ≡ true → (call : Call) → output_of call ≡ Some port.reference →
    m.look (state_written r.system.ports (only_at taken (written_at_port r.system.ports V))
    port.component.0 m s) call ≡ m.look (state_with r.system.ports V port.component.0 m s) call

-- likewise in Initialization Mode
abbrev pub LooksInitially : Type 0
LooksInitially =
    (r : Run) → IsSound r.system → AreMachines r → (p : ℕ) (port : Port) →
    slice_get r.system.ports p ≡ Some port → is_output_role port.role ≡ true →
    is_read r.system.ports p ≡ true →
    (W : List (Option ℤ)) → SolvesInitially r W → (taken : List ℕ) →
    ((q : ℕ) → NeedsInitially r.system p q → Contains taken q) →
    (c : Component) (m : Machine) (s : MachineState) →
    IsFmu r (initializing r) port.component.0 c m s → (call : Call) →
    output_of call ≡ Some port.reference →
    m.look (state_written r.system.ports (only_at taken (written_at_port r.system.ports W))
    port.component.0 m s) call ≡ m.look (state_with r.system.ports W port.component.0 m s) call

-- whether a port is present is about its Clocks
abbrev pub PresentByNeeds : Type 0
PresentByNeeds =
    (system : System) (p : ℕ) (port : Port) (V W : List (Option ℤ)) →
    slice_get system.ports p ≡ Some port → ((q : ℕ) → Needs system p q → value V q ≡ value W q) →
    is_present port V ≡ is_present port W

-- and its value is about what it needs
abbrev pub ValueByNeeds : Type 0
ValueByNeeds =
    (r : Run) → IsSound r.system → AreMachines r → (s : Situation) → AreStates r false s.states →
    (p : ℕ) (port : Port) → slice_get r.system.ports p ≡ Some port →
    (V W : List (Option ℤ)) → AgreeAround r.system p V W → (last v w : Option ℤ) →
    SolvesAt port.role r s V p port last v → SolvesAt port.role r s W p port last w → v ≡ w
