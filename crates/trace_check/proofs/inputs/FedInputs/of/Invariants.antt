use Rattle.trace_check.specs.Inputs.{HoldInputs}
use Rattle.trace_check.proofs.inputs.FedInputs.of.Given as goal

abbrev pub invariant-loop-p : goal.invariant-loop-p
invariant-loop-p l = HoldInputs l.system.ports l.p l.steady.items l.at_ticks
