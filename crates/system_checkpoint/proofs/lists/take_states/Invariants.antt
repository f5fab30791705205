use Rattle.system_checkpoint.specs.Whole.{StateOf}
use Rattle.system_checkpoint.proofs.ListLemmas.{Walks}
use Rattle.system_checkpoint.proofs.lists.take_states.Given as goal

abbrev pub invariant-loop-component : goal.invariant-loop-component
invariant-loop-component l = Walks StateOf l.components l.bytes l.states.items l._component-index l.done
