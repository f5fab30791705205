use Rattle.std.proofs.Common.{◌≡◌, ◌≤◌, drop, length, pos}
use Rattle.std.specs.Prelude.{replicate}
use Rattle.bench_fmus.specs.Packed.{read_values}
use Rattle.bench_fmus.proofs.packed.read_values.Given as goal

-- the values so far are read
abbrev pub invariant-loop-entry : goal.invariant-loop-entry
invariant-loop-entry l = record {
  within : l.at ≤ length l.bytes;
  room : length l.values ≡ length l.variables;
  rest : read_values l.variables (drop l.entry-index l.order) (drop l.at l.bytes) l.values ≡
      read_values l.variables l.order l.bytes (replicate (length l.variables) (pos 0));
}
