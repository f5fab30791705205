use Rattle.std.proofs.Common.{◌<◌, length, true, false, sym, ap, ◌∙◌, subst, arith}
use Rattle.std.proofs.lemmas.Bool.{false≢true}
use Rattle.std.proofs.lemmas.List.{get_or_read, length-map, length-set}
use Rattle.doc_tables.specs.Tables.{IsRepeated}
use Rattle.flatten.specs.Indexed.{ends_of}
use Rattle.flatten.specs.Rules.{RepeatsEnd, end_at}
use Rattle.flatten.proofs.LeastLemmas.{least_all, least_not, least_there}
use Rattle.flatten.proofs.EndLemmas.{AreTaken, EndsWith, end_here, ends_in, taken_more, taken_repeats, variables_len}
use Rattle.flatten.proofs.connectors.FlatTree.first_repeated_end.Goals as goal
use Rattle.flatten.proofs.connectors.FlatTree.first_repeated_end.Goals.{then-index, else-index}

pub point_number-point-requires-clause-connector : goal.point_number-point-requires-clause-connector
point_number-point-requires-clause-connector c =
    let f = c.requires.indexed in
    (ends_in c.args.self.now.tree.now c.args.self.now.connections.items c.index.result.now f.whole f.connections
    (c.loop-connection.connection, (omega arith), sym c.index.ensures)).1

pub loop-connection-preserved : goal.loop-connection-preserved
loop-connection-preserved c =
    let f = c.requires.indexed in
    let t = c.args.self.now.tree.now in
    let shapes = c.args.self.now.shapes.now in
    let points = c.args.self.now.points.items in
    let connections = c.args.self.now.connections.items in
    let count = length c.args.self.now.variables.all.items in
    let i = c.loop-connection.connection in
    let n = c.point_number-point.result in
    let taken = c.loop-connection.taken.items in
    let was = c.loop-connection.invariant in
    let len = was.len in
    let within = c.point_number-point.ensures.within in
    let l : i < length t.connections = (let e = ap length f.connections in let m = length-map t.connections ends_of in omega (arith, e, m)) in
    let here : EndsWith t points count i n = end_here t points connections count i n c.index.result.now f.whole f.points.len f.connections l c.index.ensures c.point_number-point.ensures.number in
    let all = variables_len shapes c.args.self.now.variables f.variables in
    let repeats = taken_repeats t shapes points f.shapes f.points f.whole i n taken (subst (λ z. EndsWith t points z i n) all here) (subst (λ z. AreTaken t points z i taken) all was.taken) in
    let read = get_or_read taken n c.index-in-loop-connection.result.now (omega (arith, len, within)) c.index-in-loop-connection.ensures false in
    record {
      len = length-set taken n true ∙ len;
      taken = taken_more t points count i n taken (omega (arith, len, within)) here was.taken;
      first = elim c.if-index.branch [
        | then-index w ↦
            least_there t.connections (λ k. k.node) (λ j k. IsRepeated (end_at t shapes) j) w.as_slice.result.now i _ c.loop-connection.first c.if-index.first w.as_slice.ensures l (λ y e. repeats.0 (sym read ∙ w.if-index.true)) (w.first-is ∙ w.earlier-first.ensures) was.first
        | else-index w ↦
            least_not t.connections (λ k. k.node) (λ j k. IsRepeated (end_at t shapes) j) i c.loop-connection.first c.if-index.first (λ y e h. false≢true (sym w.if-index.false ∙ read ∙ repeats.1 h)) w.first-is was.first
      ];
    }

pub returns : goal.returns
returns c =
    let f = c.requires.indexed in
    let t = c.args.self.now.tree.now in
    let shapes = c.args.self.now.shapes.now in
    least_all t.connections (λ k. k.node) (λ j k. IsRepeated (end_at t shapes) j) (RepeatsEnd t shapes) c.loop-connection.connection c.loop-connection.first
    (let e = ap length f.connections in let m = length-map t.connections ends_of in omega (arith, e, m)) (λ node h. (h.0, (h.1.0, (h.1.1, h.1.2), h.1.3))) (λ i node h. (i, (h.0, h.1.0, h.1.1, h.2))) c.loop-connection.invariant.first
