use Rattle.flatten.specs.Ports.{at_number}
use Rattle.flatten.proofs.FeedLemmas.{AreFedBelow}
use Rattle.flatten.proofs.connectors.FlatTree.feeds.Given as goal

abbrev pub invariant-loop-connector : goal.invariant-loop-connector
invariant-loop-connector l = AreFedBelow l.self l.numbers l.connector (at_number l.feeds)
