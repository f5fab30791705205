use Rattle.std.proofs.Common.{◌+◌, length}
use Rattle.std.specs.Option.{option_map_or}
use Rattle.name_prefixes.proofs.StepLemmas.{IsNext}
use Rattle.name_prefixes.proofs.prefixes.last_prefix.Given as goal

abbrev pub invariant-loop-next : goal.invariant-loop-next
invariant-loop-next l = IsNext l.sorted l.text (length l.shorter) l.next

abbrev pub decreases-loop-next : goal.decreases-loop-next
decreases-loop-next l = option_map_or (λ m. m + 1) l.next 0
