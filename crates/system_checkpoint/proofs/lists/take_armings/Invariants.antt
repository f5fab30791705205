use Rattle.system_checkpoint.specs.Whole.{ArmingOf}
use Rattle.system_checkpoint.proofs.ListLemmas.{Walks}
use Rattle.system_checkpoint.proofs.lists.take_armings.Given as goal

abbrev pub invariant-loop-port : goal.invariant-loop-port
invariant-loop-port l = Walks (ArmingOf l.held) l.ports l.bytes l.values.items l.port-index l.done
