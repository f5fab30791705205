use Rattle.std.proofs.Common.{◌<◌, length, ◌∙◌, ap, sym, subst, arith}
use Rattle.std.specs.List.{All}
use Rattle.port_orders.specs.Gathered.{row_at}
use Rattle.port_orders.proofs.GatherLemmas.{referred_more, row_below}
use Rattle.port_orders.proofs.gathering.Gathering.add_referred.Goals as goal

pub add_all-requires-clause-needs : goal.add_all-requires-clause-needs
add_all-requires-clause-needs c = subst (All (λ q. q < length c.args.taken.now)) (sym c.row_of.ensures) (row_below c.args.table.now (length c.args.taken.now) c.place_in.result c.requires.table)

pub loop-reference-preserved : goal.loop-reference-preserved
loop-reference-preserved c =
    let e = c.in_ok-add_all.ensures in
    record {
      held = e.held;
      adds = referred_more c.args.taken.now c.args.number c.args.components.now c.args.port.now c.args.on.now c.args.table.now c.loop-reference.reference-index c.row_of.result.now _ _ _ (omega arith) (c.row_of.ensures ∙ ap (row_at c.args.table.now) c.place_in.ensures) c.loop-reference.invariant.adds e.adds;
    }
