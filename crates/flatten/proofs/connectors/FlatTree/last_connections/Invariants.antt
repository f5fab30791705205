use Rattle.std.proofs.Common.{length}
use Rattle.flatten.specs.Ports.{at_number}
use Rattle.flatten.proofs.WayLemmas.{AreLastBelow}
use Rattle.flatten.proofs.connectors.FlatTree.last_connections.Given as goal

abbrev pub invariant-loop-connection : goal.invariant-loop-connection
invariant-loop-connection l = AreLastBelow l.self.tree.now l.self.points.items (length l.self.variables.all.items) l.connection (at_number l.last)
