use Rattle.std.proofs.Common.{length, map, ap, ◌∙◌, arith}
use Rattle.std.proofs.lemmas.List.{take_all}
use Rattle.flatten.proofs.JoinedLemmas.{ends_back, turned_ends}
use Rattle.flatten.proofs.connectors.FlatTree.turned.Goals as goal

pub returns : goal.returns
returns c =
    let connections = c.args.self.now.tree.now.connections in
    let e = ap length c.as_slice-connection-items.ensures in
    c.loop-connection.invariant ∙ ap (map ends_back) (take_all c.loop-connection.connection-index connections (omega (arith, e))) ∙ turned_ends connections
