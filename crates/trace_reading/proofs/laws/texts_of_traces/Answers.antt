use Rattle.trace_reading.proofs.TraceLemmas.{one_trace, fault_no_text}
use Rattle.trace_reading.proofs.FirstLemmas.{one_fault}
use Rattle.trace_reading.proofs.WrittenLemmas.{written}
use Rattle.trace_reading.proofs.laws.texts_of_traces.Goals as goal

pub returns : goal.returns
returns c = record { one = one_trace; none = fault_no_text; first = one_fault; written = written }
