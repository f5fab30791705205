use Rattle.ssd_tree.specs.Elements.{connector_key}
use Rattle.ssd_tree.proofs.indexed.IndexedTree.repeats_connector.Goals as goal

pub returns : goal.returns
returns c = c.is_repeated.ensures (connector_key c.args.self.now.tree.now) c.requires.connectors c.connector_key.ensures
