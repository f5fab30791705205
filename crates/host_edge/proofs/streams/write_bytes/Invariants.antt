-- The prefix that was written is what the stream tells, the rest is still to be written, and each turn wrote or was broken off.
use Rattle.std.proofs.Common.{◌≡◌, ℕ, ◌+◌, ◌≤◌, List, ◌++◌, length}
use Rattle.host_edge.specs.Streams.{Takes}
use Rattle.host_edge.proofs.streams.write_bytes.Given as goal

abbrev pub invariant-writes : goal.invariant-writes
invariant-writes g l = record {
  done : List ℕ;
  split : l.initial.rest ≡ done ++ l.rest;
  takes : Takes (g.W.Stream.view l.initial.stream) (g.W.Stream.view l.stream) done;
  turns : l.counter ≤ takes.signals + length done;
}
