use Rattle.std.proofs.Common.{◌+◌, take, refl, sym, ◌∙◌}
use Rattle.value_types.specs.Shape.{is_output_port}
use Rattle.fmu_description.specs.Description.{IsInitialDependency}
use Rattle.fmu_description.proofs.StepLemmas.{passes, fails, one_more}
use Rattle.fmu_description.proofs.dependencies.initial_dependencies.Goals as goal
use Rattle.fmu_description.proofs.dependencies.initial_dependencies.Goals.{then-is_output_port+in_ok-on+in_ok-push, else-is_output_port}

pub loop-variable-preserved : goal.loop-variable-preserved
loop-variable-preserved c =
    let xs = c.as_slice-variable-items.result.now in
    let i = c.loop-variable.variable-index in
    let x = c.variable-item.result in
    elim c.if-is_output_port.branch [
      | then-is_output_port+in_ok-on+in_ok-push w ↦
          passes (IsInitialDependency c.args.tree.now c.args.variables.now) is_output_port (take i xs) (take (i + 1) xs) x c.loop-variable.dependencies.items c.if-is_output_port.dependencies.items
          (record { output = x.reference; on = w.in_ok-on.on })
          (one_more xs i x c.loop-variable-test.true c.variable-item.is) (sym c.is_output_port.ensures ∙ w.if-is_output_port.true) c.loop-variable.invariant (refl, w.in_ok-on.ensures)
          (rw w.dependencies-is w.in_ok-push.ensures.items)
      | else-is_output_port w ↦
          fails (IsInitialDependency c.args.tree.now c.args.variables.now) is_output_port (take i xs) (take (i + 1) xs) x c.loop-variable.dependencies.items c.if-is_output_port.dependencies.items
          (one_more xs i x c.loop-variable-test.true c.variable-item.is) (sym c.is_output_port.ensures ∙ w.if-is_output_port.false) c.loop-variable.invariant (rw w.dependencies-is)
    ]
