-- What a port needs before it can be set or read (SSP 1.0: connections; FMI 3.0, 2.4.9: ModelStructure; 2.2.8: clocked variables).
use Rattle.std.specs.Prelude.{◌≡◌, ℕ, ◌==◌, Bool, true, false, not, ◌&&◌, List, length, Some, IsSomeAnd, Contains}
use Rattle.std.specs.List.{slice_get}
use Rattle.std.specs.Option.{option_map_or}
use Rattle.value_types.specs.Shape.{variable_at, is_declared}
use Rattle.value_types.specs.declared.shape.Variable.{Variable}
use Rattle.system_model.specs.declared.system.Component.{Component}
use Rattle.system_model.specs.declared.system.Port.{Port}
use Rattle.system_model.specs.declared.system.System.{System}
use Rattle.system_model.specs.Ports.{port_numbers, source_of, is_output_role, is_clock_role}

-- p is an output and q a port of the same component, on which p is declared to depend; in Initialization Mode by a list of its own
pub record DependsOn (system : System) (initializing : Bool) (p q : ℕ) : Type 0 where
  pub port : Port
  pub on : Port
  pub component : Component
  pub at : slice_get system.ports p ≡ Some port
  pub there : slice_get system.ports q ≡ Some on
  pub of : slice_get system.components port.component.0 ≡ Some component
  pub same : on.component.0 ≡ port.component.0
  pub output : is_output_role port.role ≡ true
  pub declared : IsSomeAnd (variable_at component.shape.variables on.reference)
      (λ (v : Variable). is_declared component.shape initializing port.reference v ≡ true)

-- in an instant p needs q: q feeds it, q is one of its Clocks, or p is an output of an FMU with event mode and depends on q
pub data Needs (system : System) (p q : ℕ) : Type 0 where
  ByFeed : (port : Port) → slice_get system.ports p ≡ Some port →
      source_of port.role ≡ Some q → Needs system p q
  ByClock : (port : Port) → slice_get system.ports p ≡ Some port →
      Contains (port_numbers port.clocks) q → Needs system p q
  ByDependency : (depends : DependsOn system false p q) →
      depends.component.shape.has_event_mode ≡ true → Needs system p q

-- ---- in Initialization Mode

-- a port that has no Clocks and is none
abbrev pub is_unclocked : Port → Bool
is_unclocked port = not (is_clock_role port.role) && length port.clocks == 0

abbrev pub is_unclocked_at : List Port → ℕ → Bool
is_unclocked_at ports p = option_map_or is_unclocked (slice_get ports p) false

-- in Initialization Mode p needs q, both without Clocks: q feeds it, or p is an output that depends on q
pub data NeedsInitially (system : System) (p q : ℕ) : Type 0 where
  InitiallyByFeed : is_unclocked_at system.ports p ≡ true → is_unclocked_at system.ports q ≡ true →
      (port : Port) → slice_get system.ports p ≡ Some port → source_of port.role ≡ Some q →
      NeedsInitially system p q
  InitiallyByDependency : is_unclocked_at system.ports p ≡ true →
      is_unclocked_at system.ports q ≡ true → DependsOn system true p q → NeedsInitially system p q
