-- The trace that the text of a run tells.
use Rattle.std.specs.Prelude.{ℕ, ◌^◌, ◌≤◌, List, map}
use Rattle.std.specs.List.{AllByRecursion, flat_map}
use Rattle.system_model.specs.declared.system.Component.{Component}
use Rattle.system_model.specs.declared.system.Port.{Port}
use Rattle.system_model.specs.declared.system.System.{System}
use Rattle.system_model.specs.declared.plan.Plan.{Plan}
use Rattle.system_model.specs.declared.plan.EndKind.{EndKind}
use Rattle.system_model.specs.Text.{Instant, component_name}
use Rattle.system_model.specs.Sound.{IsSound}
use Rattle.trace_reading.specs.declared.trace.TracePort.{TracePort}
use Rattle.trace_reading.specs.declared.trace.Trace.{Trace}
use Rattle.trace_reading.specs.Form.{IsInstant, IsRange, instant_lines, kinds_of}

-- a system's port, as its line tells it
abbrev pub port_told : List Component → Port → TracePort
port_told components port = record {
  kind = port.kind;
  component = component_name components port.component.0;
  variable = port.name;
}

abbrev pub ports_told : System → List TracePort
ports_told system = map (port_told system.components) system.ports

-- the system's names and types, the plan's range, the instants and the end
abbrev pub trace_told : System → Plan → List Instant → EndKind → ℕ → Trace
trace_told system plan instants kind point = record {
  resolution = plan.resolution;
  start = plan.start;
  stop = plan.stop;
  ports = ports_told system;
  lines = flat_map instant_lines instants;
  kind = kind;
  point = point;
}

-- the system is sound, the plan and the points are within their limits, and each instant's values fit
pub record IsWritable (system : System) (plan : Plan) (instants : List Instant)
    (point : ℕ) : Type 0 where
  pub sound : IsSound system
  pub range : IsRange plan.resolution plan.start plan.stop
  pub each : AllByRecursion (IsInstant (kinds_of (ports_told system))) instants
  pub low : point ≤ 2 ^ 62
