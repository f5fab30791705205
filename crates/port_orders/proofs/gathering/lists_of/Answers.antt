use Rattle.std.proofs.Common.{◌≡◌, [], length, get_or, sym, ap, ◌∙◌, subst, arith, Some}
use Rattle.std.specs.List.{slice_get}
use Rattle.std.proofs.lemmas.List.{get_or_read, length-map}
use Rattle.std.proofs.lemmas.Option.{slice_get-get_or}
use Rattle.dependency_order.specs.Graph.{AreBelow}
use Rattle.port_orders.specs.Gathered.{Adds, Concerns, IsGathering, has_part}
use Rattle.port_orders.proofs.TableLemmas.{component_within}
use Rattle.port_orders.proofs.ToldLemmas.{table_below, told_next, told_left, told_end}
use Rattle.port_orders.proofs.gathering.lists_of.Goals.{then-taken-number+in_ok-add_port, else-taken-number}
use Rattle.port_orders.proofs.gathering.lists_of.Goals as goal

pub add_port-requires-clause-table : goal.add_port-requires-clause-table
add_port-requires-clause-table c =
    let components = c.args.components.now in
    let ports = c.args.ports.now in
    let taken = c.args.taken.now in
    let tables = c.in_ok-tables.tables.items in
    let are = c.in_ok-tables.ensures in
    let port = c.index-ports-number.result in
    let at : slice_get ports c.loop-number.number ≡ Some port = slice_get-get_or ports c.loop-number.number port (omega arith) ∙ ap Some (sym c.index-ports-number.is) in
    let n = are.len in
    let within = component_within components ports c.loop-number.number port c.requires.placed at in
    let count : length taken ≡ length ports = ap length c.requires.taken ∙ length-map ports (has_part c.args.initializing) in
    let read : c.index-table.result.now ≡ get_or tables port.component.0 [] = get_or_read tables port.component.0 c.index-table.result.now (omega (arith, n, within)) c.index-table.ensures [] in
    subst (λ z. AreBelow z (length taken)) (sym read) (subst (AreBelow (get_or tables port.component.0 [])) (sym count) (table_below components ports taken (length ports) port.component.0 tables are))

pub loop-number-preserved : goal.loop-number-preserved
loop-number-preserved c =
    let components = c.args.components.now in
    let ports = c.args.ports.now in
    let taken = c.args.taken.now in
    let initializing = c.args.initializing in
    let number = c.loop-number.number in
    let tables = c.in_ok-tables.tables.items in
    let are = c.in_ok-tables.ensures in
    let port = c.index-ports-number.result in
    let at : slice_get ports number ≡ Some port = slice_get-get_or ports number port (omega arith) ∙ ap Some (sym c.index-ports-number.is) in
    let n = are.len in
    let within = component_within components ports number port c.requires.placed at in
    let count : length taken ≡ length ports = ap length c.requires.taken ∙ length-map ports (has_part initializing) in
    let i = c.loop-number.invariant in
    elim c.if-taken-number.branch [
      | then-taken-number+in_ok-add_port w ↦
          let g = w.add_port.new.self in
          let read : w.index-table.result.now ≡ get_or tables port.component.0 [] = get_or_read tables port.component.0 w.index-table.result.now (omega (arith, n, within)) w.index-table.ensures [] in
          let e = w.in_ok-add_port.ensures in
          let adds : Adds taken number (Concerns components initializing port (get_or tables port.component.0 [])) c.loop-number.gathering.lists g.lists = subst (λ z. Adds taken number (Concerns components initializing port z) c.loop-number.gathering.lists g.lists) read e.adds in
          rw w.gathering-is (record {
            held = subst (λ z. IsGathering z g.stamps.items g.lists) count e.held;
            told = told_next components ports taken initializing number port tables at are c.loop-number.gathering.lists g.lists w.if-taken-number.true adds i.told;
          })
      | else-taken-number w ↦ rw w.gathering-is (record {
        held = i.held;
        told = told_left components ports taken initializing number c.loop-number.gathering.lists w.if-taken-number.false i.told;
      })
    ]

pub returns-clause-told : goal.returns-clause-told
returns-clause-told c = told_end c.args.components.now c.args.ports.now c.args.taken.now c.args.initializing c.loop-number.number c.loop-number.gathering.lists c.loop-number-test.false c.loop-number.invariant.told
