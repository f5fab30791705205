use Rattle.std.proofs.Common.{◌≡◌, map, take, get_or}
use Rattle.parameter_targets.proofs.targets.Targets.near_paths.Given as goal

abbrev pub invariant-loop-place : goal.invariant-loop-place
invariant-loop-place l = l.ats.items ≡ map (λ k. get_or l.row k 0) (take l.place-index l.place-items)
