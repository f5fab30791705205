use Rattle.system_checkpoint.specs.Whole.{EventOf}
use Rattle.system_checkpoint.proofs.ListLemmas.{Walks}
use Rattle.system_checkpoint.proofs.lists.take_events.Given as goal

abbrev pub invariant-loop-component : goal.invariant-loop-component
invariant-loop-component l = Walks (EventOf l.held) l.components l.bytes l.values.items l.component-index l.done
