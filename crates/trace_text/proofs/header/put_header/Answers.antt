use Rattle.std.proofs.Common.{◌+◌, drop, arith}
use Rattle.system_model.specs.Text.{lines_text, port_line, port_lines_from}
use Rattle.trace_text.specs.Lines.{ended}
use Rattle.trace_text.proofs.RestLemmas.{room_next, stands_more, next_port}
use Rattle.trace_text.proofs.header.put_header.Goals as goal

pub append_port_line-at-requires : goal.append_port_line-at-requires
append_port_line-at-requires c =
    let components = c.as_slice-components.result.now in
    let ports = c.as_slice-ports.result.now in
    let k = c.loop-number.number in
    let port = c.index-ports-number.result in
    room_next (ended (port_line components k port)) (lines_text (port_lines_from components (k + 1) (drop (k + 1) ports))) _ _ _
    (next_port components ports k port _ _ _ c.loop-number.invariant c.loop-number-test.true c.index-ports-number.is) (omega arith)

pub loop-number-preserved : goal.loop-number-preserved
loop-number-preserved c =
    let components = c.as_slice-components.result.now in
    let k = c.loop-number.number in
    let port = c.index-ports-number.result in
    let next = next_port components c.as_slice-ports.result.now k port _ _ _ c.loop-number.invariant c.loop-number-test.true c.index-ports-number.is in
    let put = c.append_port_line-at.ensures in
    stands_more (ended (port_line components k port)) _ _ _ _ _ _ next put.end put.text
