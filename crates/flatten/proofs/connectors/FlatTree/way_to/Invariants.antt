use Rattle.std.proofs.Common.{◌-◌, ◌<◌, length}
use Rattle.flatten.proofs.WayLemmas.{IsOnWay}
use Rattle.flatten.proofs.connectors.FlatTree.way_to.Given as goal

abbrev pub invariant-loop-connection : goal.invariant-loop-connection
invariant-loop-connection l = record {
  within : l.at < length l.self.tree.now.connectors;
  way : IsOnWay l.self.tree.now l.self.shapes.now l.connector l.back.items l.at;
}

abbrev pub decreases-loop-connection : goal.decreases-loop-connection
decreases-loop-connection l = length l.self.connections.items - length l.back.items
