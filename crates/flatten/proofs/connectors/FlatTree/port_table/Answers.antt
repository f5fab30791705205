use Rattle.flatten.proofs.CountLemmas.{few_ports}
use Rattle.flatten.proofs.connectors.FlatTree.port_table.Goals as goal

pub port_numbers-requires-clause-few : goal.port_numbers-requires-clause-few
port_numbers-requires-clause-few c = few_ports c.args.self.now.tree.now c.args.self.now.shapes.now c.requires.indexed.shapes c.requires.fitting
