-- The rules of a system are about its components and ports alone.
use Rattle.std.proofs.Common.{◌≡◌, ℕ, ℤ, List, map, ap, ◌∙◌}
use Rattle.std.specs.Prelude.{Option, Some, slice_get}
use Rattle.system_model.specs.declared.system.Component.{Component}
use Rattle.system_model.specs.declared.system.Port.{Port}
use Rattle.system_model.specs.declared.system.System.{System}
use Rattle.system_model.specs.Text.{Instant}
use Rattle.trace_reading.specs.declared.trace.Trace.{Trace}
use Rattle.trace_reading.specs.declared.trace.TracePort.{TracePort}
use Rattle.trace_reading.specs.Written.{port_told, ports_told}
use Rattle.trace_check.specs.Ticks.{IsConstantClock}
use Rattle.trace_check.specs.Values.{DiffersFromSource}
use Rattle.trace_check.specs.Rules.{Breaks, BreaksIn}
use Rattle.trace_check.specs.Rules.Breaks.{AtPort, InInstant, AtEnd}
use Rattle.trace_check.specs.Rules.BreaksIn.{OutOfOrder, OffSource, OffTick}
use Rattle.trace_laws.specs.Laws.{IsOfParts}

module _ (one other : System) (components : one.components ≡ other.components) (ports : one.ports ≡ other.ports) where
  told_same : ports_told one ≡ ports_told other
  told_same = ap (λ (cs : List Component). map (port_told cs) one.ports) components ∙ ap (λ (ps : List Port). map (port_told other.components) ps) ports

  port_there : (p : ℕ) (port : Port) → slice_get other.ports p ≡ Some port → slice_get one.ports p ≡ Some port
  port_there p port at = ap (λ (ps : List Port). slice_get ps p) ports ∙ at

  differs_there : (values : List (Option ℤ)) (p : ℕ) → DiffersFromSource other values p → DiffersFromSource one values p
  differs_there values p d = record { port = d.port; comes = d.comes; at = port_there p d.port d.at; fed = d.fed; present = d.present; differs = d.differs }

  clock_there : (p interval shift : ℕ) → IsConstantClock other p interval shift → IsConstantClock one p interval shift
  clock_there p interval shift clock = record {
    port = clock.port;
    at = port_there p clock.port clock.at;
    role = clock.role;
    constant = record {
      component = clock.constant.component;
      timing = clock.constant.timing;
      of = ap (λ (cs : List Component). slice_get cs clock.port.component.0) components ∙ clock.constant.of;
      described = clock.constant.described;
      constant = clock.constant.constant;
    };
  }

  breaks_in : (t : Trace) (last : Option (ℕ × ℕ)) (i : Instant) (offset rule : ℕ) → BreaksIn other t last i offset rule → BreaksIn one t last i offset rule
  breaks_in t last i offset rule (OutOfOrder at rule_is wrong) = OutOfOrder at rule_is wrong
  breaks_in t last i offset rule (OffSource p at rule_is differs) = OffSource p at rule_is (differs_there i.values p differs)
  breaks_in t last i offset rule (OffTick at rule_is p interval shift clock off) = OffTick at rule_is p interval shift (clock_there p interval shift clock) off

  pub breaks_there : (t : Trace) (line rule : ℕ) → Breaks other t line rule → Breaks one t line rule
  breaks_there t line rule (AtPort k at rule_is differs) = AtPort k at rule_is (λ same. differs (same ∙ ap (λ (ps : List TracePort). slice_get ps k) told_same))
  breaks_there t line rule (InInstant before after i offset told at breaks) = InInstant before after i offset told at (breaks_in t _ i offset rule breaks)
  breaks_there t line rule (AtEnd instants told at rule_is stop wrong) = AtEnd instants told at rule_is stop wrong

pub of_parts : IsOfParts
of_parts one other t components ports keeps line rule breaks = keeps line rule (breaks_there one other components ports t line rule breaks)
