use Rattle.std.proofs.Common.{Vec, Global, ◌≡◌, ◌+◌, false, length, get_or, sym, ap, ◌∙◌, subst, arith, Some}
use Rattle.std.specs.List.{slice_get}
use Rattle.dependency_order.specs.declared.lists.Lists.{Lists}
use Rattle.std.proofs.lemmas.Option.{slice_get-get_or}
use Rattle.port_orders.specs.Gathered.{AreTables}
use Rattle.port_orders.proofs.TableLemmas.{tables_taken, tables_left, tables_begin, tables_reach, component_within}
use Rattle.port_orders.proofs.index.tables_of.Goals.{in-Some+in_ok-reach+in_ok-note, in_default}
use Rattle.port_orders.proofs.index.tables_of.Goals as goal

pub loop-number-init : goal.loop-number-init
loop-number-init c = tables_begin c.args.components.now c.args.ports.now c.args.taken.now c.in_ok-tables.tables.items c.in_ok-tables.ensures

pub loop-number-preserved : goal.loop-number-preserved
loop-number-preserved c =
    let components = c.args.components.now in
    let ports = c.args.ports.now in
    let taken = c.args.taken.now in
    let number = c.loop-number.number in
    let tables = c.loop-number.tables.items in
    let port = c.index-ports-number.result in
    let at : slice_get ports number ≡ Some port = slice_get-get_or ports number port (omega arith) ∙ ap Some (sym c.index-ports-number.is) in
    let i = c.loop-number.invariant in
    let n = i.len in
    let within = component_within components ports number port c.requires.placed at in
    elim c.match-place_if.branch [
      | in-Some+in_ok-reach+in_ok-note w ↦
          let place = w.in-Some.place in
          let reached = w.reach.new.tables.items in
          let grown = w.in_ok-reach.ensures.grown in
          let there = subst (AreTables components ports taken number) (sym grown.1) (tables_reach components ports taken number tables port.component.0 grown.0 (omega (arith, n, within)) i) in
          let there_len = there.len in
          subst (AreTables components ports taken (number + 1)) (sym (ap (λ (z : Vec Lists Global). z.items) w.tables-is))
          (tables_taken components ports taken number reached w.note.new.tables.items port place c.place_if.result at c.place_if.ensures w.in-Some.is (omega (arith, there_len, within)) w.in_ok-reach.ensures.reached w.in_ok-note.ensures there)
      | in_default w ↦
          subst (AreTables components ports taken (number + 1)) (sym (ap (λ (z : Vec Lists Global). z.items) w.tables-is)) (tables_left components ports taken number tables port c.place_if.result at c.place_if.ensures w.in_default.is i)
    ]

pub returns : goal.returns
returns c =
    let e : c.loop-number.number ≡ length c.args.ports.now = omega arith in
    subst (λ z. AreTables c.args.components.now c.args.ports.now c.args.taken.now z c.loop-number.tables.items) e c.loop-number.invariant
