use Rattle.std.proofs.Common.{◌+◌}
use Rattle.std.specs.Option.{option_map_or}
use Rattle.name_prefixes.proofs.StepLemmas.{IsWalked}
use Rattle.name_prefixes.proofs.prefixes.prefixes_of.Given as goal

abbrev pub invariant-loop-next : goal.invariant-loop-next
invariant-loop-next l = IsWalked l.sorted l.name l.places.items l.next

abbrev pub decreases-loop-next : goal.decreases-loop-next
decreases-loop-next l = option_map_or (λ m. m + 1) l.next 0
