use Rattle.std.proofs.Common.{◌≡◌, ◌+◌, length, map, sym, ap, ◌∙◌, subst, arith, Bor}
use Rattle.std.proofs.lemmas.List.{length-map}
use Rattle.value_types.specs.declared.shape.Variable.{Variable}
use Rattle.flatten.proofs.PortNumberLemmas.{AreNumbersBelow, variable_read, number_port, number_other, numbers_whole}
use Rattle.flatten.proofs.connectors.FlatTree.port_numbers.Goals as goal
use Rattle.flatten.proofs.connectors.FlatTree.port_numbers.Goals.{then-is_port+in_ok-push, else-is_port+in_ok-push-2}

pub loop-variable-preserved : goal.loop-variable-preserved
loop-variable-preserved c =
    let shapes = c.args.self.now.shapes.now in
    let i = c.loop-variable.variable-index in
    let was = c.loop-variable.numbers.items in
    let there = variable_read shapes c.args.self.now.variables c.deref-variable-items.result.now i c.variable-item.result c.requires.indexed.variables c.deref-variable-items.ensures.value c.loop-variable-test.true c.variable-item.is in
    elim c.if-is_port.branch [
      | then-is_port+in_ok-push w ↦
          let items = ap (λ z. z.items) w.numbers-is ∙ w.in_ok-push.ensures.items in
          subst (λ n. AreNumbersBelow shapes (i + 1) n c.if-is_port.numbers.items) (sym w.count-is)
          (subst (AreNumbersBelow shapes (i + 1) (c.loop-variable.count + 1)) (sym items) (number_port shapes i c.loop-variable.count c.variable-item.result.now was there (sym c.is_port.ensures ∙ w.if-is_port.true) c.loop-variable.invariant))
      | else-is_port+in_ok-push-2 w ↦
          let items = ap (λ z. z.items) w.numbers-is ∙ w.in_ok-push-2.ensures.items in
          subst (λ n. AreNumbersBelow shapes (i + 1) n c.if-is_port.numbers.items) (sym w.count-is)
          (subst (AreNumbersBelow shapes (i + 1) c.loop-variable.count) (sym items) (number_other shapes i c.loop-variable.count c.variable-item.result.now was there (sym c.is_port.ensures ∙ w.if-is_port.false) c.loop-variable.invariant))
    ]

pub returns : goal.returns
returns c =
    let count : length c.args.self.now.variables.all.items ≡ length (map (λ (x : Bor Variable). x.now) c.args.self.now.variables.all.items) = sym (length-map c.args.self.now.variables.all.items (λ (x : Bor Variable). x.now)) in
    let all = ap length c.requires.indexed.variables.all in
    let items = ap length c.deref-variable-items.ensures.value in
    numbers_whole c.args.self.now.shapes.now c.loop-variable.variable-index c.loop-variable.count c.loop-variable.numbers.items (omega arith) c.loop-variable.invariant
