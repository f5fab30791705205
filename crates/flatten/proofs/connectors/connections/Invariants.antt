use Rattle.std.proofs.Common.{◌≡◌, map, take}
use Rattle.flatten.specs.Indexed.{ends_of}
use Rattle.flatten.proofs.connectors.connections.Given as goal

abbrev pub invariant-loop-connection : goal.invariant-loop-connection
invariant-loop-connection l = l.connections.items ≡ map ends_of (take l.connection-index l.tree.connections)
