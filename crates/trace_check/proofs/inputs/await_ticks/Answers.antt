use Rattle.std.proofs.Common.{arith, subst, sym, List, ℕ, take, ◌+◌}
use Rattle.sim_base.specs.declared.numbers.PortId.{PortId}
use Rattle.trace_check.specs.Inputs.{WaitToo}
use Rattle.trace_check.proofs.InputLemmas.{wait_next, wait_skip}
use Rattle.trace_check.proofs.inputs.await_ticks.Goals as goal
use Rattle.trace_check.proofs.inputs.await_ticks.Goals.{then-clock-len+in_ok-push, else-clock-len}

pub loop-clock-preserved : goal.loop-clock-preserved
loop-clock-preserved c =
    let d : PortId = record { 0 = 0 } in
    let i = c.loop-clock.clock-index in
    let P : List (List ℕ) → Type 0 = λ ls. WaitToo (take (i + 1) c.args.clocks.now) c.args.input c.args.lists.now ls in
    elim c.if-clock-len.branch [
      | then-clock-len+in_ok-push w ↦
          subst P (sym w.lists-is) (wait_next c.args.clocks.now i c.args.input d c.args.lists.now c.loop-clock.lists w.push.new.self (omega arith) c.loop-clock.invariant (omega arith) w.in_ok-push.ensures.pushed)
      | else-clock-len w ↦
          subst P (sym w.lists-is) (wait_skip c.args.clocks.now i c.args.input d c.args.lists.now c.loop-clock.lists (omega arith) c.loop-clock.invariant (omega arith))
    ]
