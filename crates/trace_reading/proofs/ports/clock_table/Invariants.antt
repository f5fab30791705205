use Rattle.std.proofs.Common.{◌≡◌, ℕ, ◌<◌, ◌≤◌, length, get_or}
use Rattle.trace_reading.specs.Form.{kinds_of}
use Rattle.trace_reading.specs.Walk.{clocks_before}
use Rattle.trace_reading.proofs.ports.clock_table.Given as goal

abbrev pub invariant-loop-port : goal.invariant-loop-port
invariant-loop-port l = record {
  size : length l.table.items ≡ l.port-index;
  each : (k : ℕ) → k < l.port-index → get_or l.table.items k 0 ≡ clocks_before (kinds_of l.ports) k;
  now : l.clocks ≡ clocks_before (kinds_of l.ports) l.port-index;
  few : l.clocks ≤ l.port-index;
}
