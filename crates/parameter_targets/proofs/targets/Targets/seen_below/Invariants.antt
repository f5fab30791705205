use Rattle.std.proofs.Common.{take}
use Rattle.parameter_targets.proofs.TargetLemmas.{SeesBy}
use Rattle.parameter_targets.proofs.targets.Targets.seen_below.Given as goal

abbrev pub invariant-loop-at : goal.invariant-loop-at
invariant-loop-at l = SeesBy l.self l.name (take l.at-index l.at-items) l.seen.items
