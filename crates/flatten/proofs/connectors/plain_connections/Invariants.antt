use Rattle.std.proofs.Common.{◌≡◌, take}
use Rattle.flatten.proofs.JoinedLemmas.{plain_ends}
use Rattle.flatten.proofs.connectors.plain_connections.Given as goal

abbrev pub invariant-loop-connection : goal.invariant-loop-connection
invariant-loop-connection l = l.connections.items ≡ plain_ends (take l.connection-index l.tree.connections)
