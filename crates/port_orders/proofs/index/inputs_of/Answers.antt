use Rattle.std.proofs.Common.{◌≡◌, ◌+◌, length, sym, ap, ◌∙◌, subst, arith, Some}
use Rattle.std.specs.List.{slice_get}
use Rattle.std.proofs.lemmas.Option.{slice_get-get_or}
use Rattle.port_orders.specs.Gathered.{AreInputs}
use Rattle.port_orders.proofs.TableLemmas.{inputs_taken, inputs_left, component_within}
use Rattle.port_orders.proofs.index.inputs_of.Goals.{then-is_input_if+in_ok-push, else-is_input_if}
use Rattle.port_orders.proofs.index.inputs_of.Goals as goal

pub loop-number-preserved : goal.loop-number-preserved
loop-number-preserved c =
    let components = c.args.components.now in
    let ports = c.args.ports.now in
    let taken = c.args.taken.now in
    let number = c.loop-number.number in
    let port = c.index-ports-number.result in
    let at : slice_get ports number ≡ Some port = slice_get-get_or ports number port (omega arith) ∙ ap Some (sym c.index-ports-number.is) in
    let i = c.loop-number.invariant in
    let n = i.len in
    let within = component_within components ports number port c.requires.placed at in
    elim c.if-is_input_if.branch [
      | then-is_input_if+in_ok-push w ↦
          subst (AreInputs components ports taken (number + 1)) (sym w.inputs-is) (inputs_taken components ports taken number c.loop-number.inputs w.push.new.self port c.is_input_if.result at c.is_input_if.ensures w.if-is_input_if.true (omega (arith, n, within)) w.in_ok-push.ensures.pushed i)
      | else-is_input_if w ↦
          subst (AreInputs components ports taken (number + 1)) (sym w.inputs-is) (inputs_left components ports taken number c.loop-number.inputs port c.is_input_if.result at c.is_input_if.ensures w.if-is_input_if.false i)
    ]

pub returns : goal.returns
returns c =
    let e : c.loop-number.number ≡ length c.args.ports.now = omega arith in
    subst (λ z. AreInputs c.args.components.now c.args.ports.now c.args.taken.now z c.loop-number.inputs) e c.loop-number.invariant
