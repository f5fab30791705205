use Rattle.std.proofs.Common.{◌≡◌, map, take}
use Rattle.flatten.proofs.JoinedLemmas.{ends_back}
use Rattle.flatten.proofs.connectors.FlatTree.turned.Given as goal

abbrev pub invariant-loop-connection : goal.invariant-loop-connection
invariant-loop-connection l = l.connections.items ≡ map ends_back (take l.connection-index l.self.tree.now.connections)
