use Rattle.std.proofs.Common.{◌≡◌, ◌≤◌, length}
use Rattle.trace_text.specs.Holding.{header_up_to, held_header_max}
use Rattle.trace_text.proofs.holding.passing_component.Given as goal

abbrev pub invariant-loop-number : goal.invariant-loop-number
invariant-loop-number l = record {
  counted : l.length ≡ length (header_up_to l.components l.ports l.fn.plan l.number);
  fits : l.length ≤ held_header_max;
}
