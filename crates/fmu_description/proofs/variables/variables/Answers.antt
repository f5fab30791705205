use Rattle.std.proofs.Common.{◌+◌, refl, sym, ◌∙◌}
use Rattle.std.specs.List.{range_with_len}
use Rattle.fmu_description.specs.Elements.{is_variable}
use Rattle.fmu_description.specs.Description.{IsVariable}
use Rattle.fmu_description.proofs.StepLemmas.{range_more, passes, fails}
use Rattle.fmu_description.proofs.variables.variables.Goals as goal
use Rattle.fmu_description.proofs.variables.variables.Goals.{then-is_variable+in_ok-variable+in_ok-push, else-is_variable}

pub loop-node-preserved : goal.loop-node-preserved
loop-node-preserved c =
    let node = c.loop-node.node in
    let tree = c.args.tree.now in
    elim c.if-is_variable.branch [
      | then-is_variable+in_ok-variable+in_ok-push w ↦
          passes (IsVariable tree) (is_variable tree) (range_with_len 0 node) (range_with_len 0 (node + 1)) node c.loop-node.variables.items c.if-is_variable.variables.items w.in_ok-variable.field-0
          (range_more node (node + 1) refl) (sym c.is_variable.ensures ∙ w.if-is_variable.true) c.loop-node.invariant w.in_ok-variable.ensures
          (rw w.variables-is w.in_ok-push.ensures.items)
      | else-is_variable w ↦
          fails (IsVariable tree) (is_variable tree) (range_with_len 0 node) (range_with_len 0 (node + 1)) node c.loop-node.variables.items c.if-is_variable.variables.items
          (range_more node (node + 1) refl) (sym c.is_variable.ensures ∙ w.if-is_variable.false) c.loop-node.invariant (rw w.variables-is)
    ]
