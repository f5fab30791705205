-- Each read so far was broken off by a signal.
use Rattle.host_edge.proofs.InStreamLemmas.{IsBrokenOff}
use Rattle.host_edge.proofs.in_streams.read_prefix.Given as goal

abbrev pub invariant-reads : goal.invariant-reads
invariant-reads g l = IsBrokenOff (g.R.InStream.view l.initial.stream) (g.R.InStream.view l.stream) l.counter
