use Rattle.std.proofs.Common.{rules}
use Rattle.system_model.specs.Text.{header_line}
use Rattle.trace_reading.proofs.TextLemmas.{is_header_line}
use Rattle.trace_reading.proofs.reading.header_before.Goals as goal

pub returns-in_err-line-clause-none : goal.returns-in_err-line-clause-none
returns-in_err-line-clause-none c = λ r s e rest range is. let found = c.split_once.ensures.exact (header_line r s e) rest (is_header_line r s e range) is in search rules

pub returns-in_err-header-clause-none : goal.returns-in_err-header-clause-none
returns-in_err-header-clause-none c = λ r s e rest range is.
    let here = c.in_ok-line.ensures.exact (header_line r s e) rest (is_header_line r s e range) is in
    let none = c.read_header_line.ensures.none r s e range here.0 in
    search rules
