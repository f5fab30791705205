use Rattle.std.proofs.Common.{◌+◌, take, sym, ◌∙◌}
use Rattle.value_types.specs.Shape.{is_clock}
use Rattle.fmu_description.specs.Description.{IsTimingOf}
use Rattle.fmu_description.proofs.StepLemmas.{passes, fails, one_more}
use Rattle.fmu_description.proofs.SoundLemmas.{timed_at}
use Rattle.fmu_description.proofs.timings.timings.Goals as goal
use Rattle.fmu_description.proofs.timings.timings.Goals.{then-is_clock+in_ok-push, else-is_clock}

pub timing_at-requires-clause-timed : goal.timing_at-requires-clause-timed
timing_at-requires-clause-timed c =
    timed_at c.args.tree.now c.args.variables.now c.loop-variable.variable-index c.variable-item.result c.requires.variables c.loop-variable-test.true c.variable-item.is (sym c.is_clock.ensures ∙ c.if-is_clock.true)

pub loop-variable-preserved : goal.loop-variable-preserved
loop-variable-preserved c =
    let xs = c.args.variables.now in
    let i = c.loop-variable.variable-index in
    let x = c.variable-item.result in
    elim c.if-is_clock.branch [
      | then-is_clock+in_ok-push w ↦
          passes (IsTimingOf c.args.tree.now) is_clock (take i xs) (take (i + 1) xs) x c.loop-variable.timings.items c.if-is_clock.timings.items w.timing_at.result
          (one_more xs i x c.loop-variable-test.true c.variable-item.is) (sym c.is_clock.ensures ∙ w.if-is_clock.true) c.loop-variable.invariant w.timing_at.ensures
          (rw w.timings-is w.in_ok-push.ensures.items)
      | else-is_clock w ↦
          fails (IsTimingOf c.args.tree.now) is_clock (take i xs) (take (i + 1) xs) x c.loop-variable.timings.items c.if-is_clock.timings.items
          (one_more xs i x c.loop-variable-test.true c.variable-item.is) (sym c.is_clock.ensures ∙ w.if-is_clock.false) c.loop-variable.invariant (rw w.timings-is)
    ]
