use Rattle.std.proofs.Common.{◌<◌, ◌≤◌, length, sym, ap, arith}
use Rattle.std.proofs.lemmas.List.{length-map}
use Rattle.flatten.specs.Indexed.{ends_of}
use Rattle.flatten.specs.Ports.{at_number}
use Rattle.flatten.proofs.EndLemmas.{EndsWith, end_here, ends_in}
use Rattle.flatten.proofs.TableLemmas.{none_under, put_apart, put_here}
use Rattle.flatten.proofs.WayLemmas.{last_alone, last_more, last_none, last_whole}
use Rattle.flatten.proofs.connectors.FlatTree.last_connections.Goals as goal

pub loop-connection-init : goal.loop-connection-init
loop-connection-init c =
    let f = c.args.self.now in
    last_none f.tree.now f.points.items (length f.variables.all.items) (at_number c.new-last.result) (none_under c.new-last.result c.new-last.ensures.empty)

pub point_number-point-requires-clause-connector : goal.point_number-point-requires-clause-connector
point_number-point-requires-clause-connector c =
    let f = c.requires.indexed in
    (ends_in c.args.self.now.tree.now c.args.self.now.connections.items c.index.result.now f.whole f.connections
    (c.loop-connection.connection, (omega arith), sym c.index.ensures)).1

pub loop-connection-preserved : goal.loop-connection-preserved
loop-connection-preserved c =
    let f = c.requires.indexed in
    let t = c.args.self.now.tree.now in
    let points = c.args.self.now.points.items in
    let connections = c.args.self.now.connections.items in
    let count = length c.args.self.now.variables.all.items in
    let i = c.loop-connection.connection in
    let n = c.point_number-point.result in
    let last = c.loop-connection.last in
    let new = c.insert.new.self in
    let updates = c.in_ok-insert.ensures.updates in
    let l : i < length t.connections = (let e = ap length f.connections in let m = length-map t.connections ends_of in omega (arith, e, m)) in
    let here : EndsWith t points count i n = end_here t points connections count i n c.index.result.now f.whole f.points.len f.connections l c.index.ensures c.point_number-point.ensures.number in
    last_more t points count i n (at_number last) (at_number new) here (last_alone c.args.self.now f c.requires.fitting i n here) (put_here last new n i updates) (put_apart last new n i updates) c.loop-connection.invariant

pub returns : goal.returns
returns c =
    let f = c.requires.indexed in
    let t = c.args.self.now.tree.now in
    let whole : length t.connections ≤ c.loop-connection.connection = (let e = ap length f.connections in let m = length-map t.connections ends_of in omega (arith, e, m)) in
    last_whole c.args.self.now (at_number c.loop-connection.last) c.loop-connection.connection whole c.loop-connection.invariant
