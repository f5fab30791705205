-- Two traces of one run are equal.
use Rattle.run_model.specs.Laws.{OneTrace}
use Rattle.run_model.proofs.OneTrace.{trace_same}

pub trace_once : OneTrace
trace_once = trace_same
