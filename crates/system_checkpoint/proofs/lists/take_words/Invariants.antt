use Rattle.system_checkpoint.specs.Whole.{WordOf}
use Rattle.system_checkpoint.proofs.ListLemmas.{Walks}
use Rattle.system_checkpoint.proofs.lists.take_words.Given as goal

abbrev pub invariant-loop-port : goal.invariant-loop-port
invariant-loop-port l = Walks WordOf l.ports l.bytes l.values.items l.port-index l.done
