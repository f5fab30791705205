use Rattle.std.proofs.Common.{◌≡◌, ◌++◌, length}
use Rattle.std.specs.List.{AllByRecursion}
use Rattle.trace_reading.specs.Form.{IsNamed, lines_of_ports}
use Rattle.system_model.specs.Text.{lines_text}
use Rattle.trace_reading.proofs.ports.read_ports.Given as goal

abbrev pub invariant-loop-ports : goal.invariant-loop-ports
invariant-loop-ports l = record {
  parts : l.text ≡ lines_text (lines_of_ports 0 l.ports.items) ++ l.rest;
  named : AllByRecursion IsNamed l.ports.items;
}

abbrev pub decreases-loop-ports : goal.decreases-loop-ports
decreases-loop-ports l = length l.rest
