use Rattle.std.proofs.Common.{drop}
use Rattle.system_model.specs.Text.{header_text, lines_text, port_lines_from}
use Rattle.trace_text.proofs.RestLemmas.{StandsBut}
use Rattle.trace_text.proofs.header.put_header.Given as goal

abbrev pub invariant-loop-number : goal.invariant-loop-number
invariant-loop-number l =
    StandsBut (lines_text (port_lines_from l.components l.number (drop l.number l.ports))) l.at l.out (header_text l.system l.resolution l.start l.stop)
